-- The lowest free element as the code finds it is that of the plan. Assumes nothing.
use mathlib.Core.Bool.{Bool, true, false, cond}
use Rattle.std.proofs.lemmas.List.Recursion.{is_position_or_len}
use mathlib.Core.List.{List}
use mathlib.Core.Path.{◌≡◌, refl, sym, ap, ◌∙◌}
use Prim.Native.Nat.{ℕ, ◌-◌, ◌≤◌, ◌<◌}
use native.Mathlib.Omega.{arith}
use lib.ListN.{length, length-take, take, get_or}
use Rattle.rules.specs.Table.{most_elements}
use Rattle.rules.specs.Reading.{table_of, no_tasks, no_signals, no_grid}
use Rattle.std.specs.Prelude.{Option, Some, None}
use Rattle.std.specs.Option.{unwrap_or}
use Rattle.std.specs.List.{position, position_or_len}
use lib.Dec.{leb, ltb}
use borrow.Author.Tests.{ltb-true, ltb-false}
use Rattle.theory.proofs.Tests.{split}
use Rattle.theory.proofs.Untils.{first_within}
use Rattle.theory.specs.Untils.{first_free}
use Rattle.theory.proofs.Chosen.{free_is}
use Rattle.elements.specs.Steps.{free_in}

-- the first element that is free
pub free_position : (t : ℕ) (us : List ℕ) → position_or_len (λ u. leb u t) us ≡ first_free us t
unfolding first_free
free_position t us = sym (is_position_or_len (λ us. first_free us t) (λ u. leb u t) refl (λ u us. ap (cond (leb u t) 0) (omega arith)) us)

-- and where none of the first 31 is, the last
pub free_taken : (held : List ℕ) (t : ℕ) {p : Option ℕ} {r : ℕ} → length held ≡ most_elements → p ≡ position (λ u. leb u t) (take (most_elements - 1) held) → r ≡ unwrap_or p (most_elements - 1)
    → (r ≡ free_in held t) × (r < most_elements)
free_taken held t {p} {r} l e h =
    let us : List ℕ = take (most_elements - 1) held in
    let at : ℕ = position_or_len (λ u. leb u t) us in
    let n : at ≡ free_in held t = free_position t us in
    let m : length us ≡ most_elements - 1 = omega (arith, length-take (most_elements - 1) held) in
    let within : free_in held t ≤ length us = first_within us t in
    let is : (b : Bool) → ltb at (length us) ≡ b → r ≡ unwrap_or (cond b (Some at) None) (most_elements - 1) = λ b q. h ∙ ap (λ p. unwrap_or p (most_elements - 1)) (e ∙ ap (λ b. cond b (Some at) None) q) in
    split (ltb at (length us))
    (λ q. let d = ltb-true at (length us) q in let v = is true q in (v ∙ n, omega arith))
    (λ q. let d = ltb-false at (length us) q in let v = is false q in (omega arith, omega arith))

-- the lowest free element: no table has more
pub free_in_lem : (held : List ℕ) (t e : ℕ) → e < most_elements → (e < most_elements - 1 → get_or held e 0 ≤ t) → ((d : ℕ) → d < e → t < get_or held d 0) → free_in held t ≡ e
free_in_lem held t e h f g = free_is (table_of no_tasks no_signals no_grid) held t e h f g
