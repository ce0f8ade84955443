-- A stretch of a list filled with one number, as a loop that sets its places one after the other. Assumes nothing.
use Prim.Native.Nat.{ℕ, zero, suc, ◌+◌, ◌≤◌}
use mathlib.Core.Path.{◌≡◌, sym, ap, ◌∙◌}
use mathlib.Core.List.{List}
use native.Mathlib.Omega.{arith}
use native.Mathlib.Numerals.{add-one}
use lib.ListN.{length, set, take, drop, replicate, length-replicate}
use Rattle.std.proofs.Math.Seq.{paste, paste-zero}
use Rattle.std.proofs.lemmas.List.{length-take-le, length-drop}
use Rattle.std.proofs.lemmas.List.Edits.{fill_from_more}
use Rattle.std.proofs.lemmas.Slice.{put_mid-paste}
use borrow.Rule.Slice.PartMut.{mid_of, put_mid}
use Rattle.rules.specs.Words.{up_to}

pub filled_is : (base n w : ℕ) (l : List ℕ) → base + n ≤ length l → up_to n (λ e k. set k (base + e) w) l ≡ paste l base (replicate n w) n
unfolding up_to
filled_is base zero w l h = paste-zero l base (replicate 0 w)
filled_is base (suc n) w l h =
    ap (λ k. set k (base + n) w) (filled_is base n w l (omega arith)) ∙ fill_from_more l base n w (omega arith) ∙ (rw add-one)

-- the same, as a slice's own filling leaves the list
pub put_is : (base k n w : ℕ) (l part : List ℕ) → base + n ≤ length l → n ≡ k → part ≡ replicate (length (mid_of base k l)) w → put_mid base k l part ≡ up_to n (λ e a. set a (base + e) w) l
put_is base k n w l part h e p =
    let long : length (take k (drop base l)) ≡ n = length-take-le k (drop base l) (omega (arith, length-drop base l)) ∙ sym e in
    put_mid-paste base k l part (replicate n w) n (p ∙ ap (λ m. replicate m w) long) e (sym (length-replicate n w)) ∙ sym (filled_is base n w l h)
