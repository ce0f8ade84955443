-- Numbers set one after the other, each at its place: what stands where in the end. Assumes nothing.
use Prim.Native.Nat.{ℕ, ◌<◌}
use mathlib.Core.Path.{◌≡◌, refl, sym, ◌∙◌}
use mathlib.Core.Bool.{Bool, true, cond}
use mathlib.Core.List.{List}
use native.Mathlib.Omega.{arith}
use lib.Dec.{ltb, eqb}
use lib.ListN.{length, set, get_or, replicate, length-set, length-replicate, get_or-replicate, get_or-eq_default}
use lib.Seq.{get_or-set_same, get_or-set_other}
use borrow.Author.Tests.{eqb-true, eqb-false, ltb-true, ltb-false}
use Rattle.rules.specs.Words.{up_to}
use Rattle.theory.proofs.Tests.{split}
use Rattle.theory.proofs.Loops.{loop_keeps, loop_turn}
use Rattle.state.specs.Parts.{at}

module _ (test : ℕ → Bool) (place number : ℕ → ℕ) where
  -- turn j, where its test passes
  abbrev pub turn : ℕ → List ℕ → List ℕ
  turn j l = cond (test j) (set l (place j) (number j)) l

  turn_length : (j : ℕ) (l : List ℕ) → length (turn j l) ≡ length l
  turn_length j l = split (test j) (λ e. rw (e, length-set l (place j) (number j))) (λ e. rw e)

  pub sets_length : (n : ℕ) (l : List ℕ) → length (up_to n turn l) ≡ length l
  sets_length n l = loop_keeps (λ a. length a ≡ length l) n turn l (λ j a h q. turn_length j a ∙ q) refl

  -- a place that no turn sets
  pub sets_off : (n : ℕ) (l : List ℕ) (x : ℕ) → ((j : ℕ) → j < n → test j ≡ true → place j ≡ x → ⊥) → at (up_to n turn l) x ≡ at l x
  sets_off n l x f =
      loop_keeps (λ a. at a x ≡ at l x) n turn l (λ j a h q. split (test j) (λ e. rw e (get_or-set_other a (place j) x (number j) 0 (λ z. f j h e (sym z)) ∙ q)) (λ e. rw e q)) refl

  -- a place that turn k sets, and every other one that does to the same number
  pub sets_at : (n : ℕ) (l : List ℕ) (x w : ℕ) → x < length l → ((j : ℕ) → j < n → test j ≡ true → place j ≡ x → number j ≡ w)
      → (k : ℕ) → k < n → test k ≡ true → place k ≡ x → at (up_to n turn l) x ≡ w
  sets_at n l x w inside f k h t e =
      (loop_turn (λ a. length a ≡ length l) (λ a. (length a ≡ length l) × (at a x ≡ w)) n turn l k h
      (λ j a i d q. turn_length j a ∙ q)
      (λ a q. (turn_length k a ∙ q, rw (t, e, f k h t e) (get_or-set_same a x w 0 (omega arith))))
      (λ j a i d (q, r). (
        turn_length j a ∙ q,
        split (test j)
            (λ u. split (eqb (place j) x)
            (λ z. let y = eqb-true (place j) x z in rw (u, y, f j i u y) (get_or-set_same a x w 0 (omega arith)))
            (λ z. rw u (get_or-set_other a (place j) x (number j) 0 (λ y. eqb-false (place j) x z (sym y)) ∙ r)))
            (λ u. rw u r),
      ))
      refl).1

-- a list of one number has it everywhere, if it stands past the end too
pub alike : (n k z : ℕ) → get_or (replicate n z) k z ≡ z
alike n k z =
    split (ltb k n)
    (λ e. get_or-replicate n k z z (ltb-true k n e))
    (λ e. let h = ltb-false k n e in get_or-eq_default (replicate n z) z (omega (arith, length-replicate n z)))
