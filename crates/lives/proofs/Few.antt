-- A signal has at most as many writer instances as the table has instances. Assumes nothing.
use mathlib.Core.Bool.{true}
use mathlib.Core.List.{List, [], ◌∷◌, map}
use mathlib.Core.Logic.{⊎_elim}
use mathlib.Core.Path.{◌≡◌, refl, sym, ap, subst, ◌∙◌}
use Prim.Native.Nat.{ℕ, suc, ◌+◌, ◌≤◌, ◌<◌, zero-le, suc-le-suc}
use native.Mathlib.Omega.{arith}
use lib.Dec.{eqb}
use lib.ListN.{length, length-map}
use borrow.Author.Tests.{eqb-true}
use Rattle.rules.specs.Words.{total}
use Rattle.rules.specs.Windows.{Table, instances}
use Rattle.rules.specs.Values.{Value, carried, by, signal_of, IsValue}
use Rattle.rules.specs.Table.{most_values, Fits}
use Rattle.rules.specs.Plan.{values_of}
use Rattle.theory.specs.Promises.{value_of}
use Rattle.theory.proofs.Tests.{or_cases, no_test, not_both}
use Rattle.theory.proofs.Sums.{block_lt, block_one}
use Rattle.theory.proofs.Pigeonhole.{has, Distinct, distinct}
use Rattle.theory.proofs.Order.{value_of_lem, value_once}

-- where a test by number is met, a value meets it
has_map : (f : Value → ℕ) (z : ℕ) (vs : List Value) → has z (map f vs) ≡ true → (i : ℕ) × (i < length vs) × (f (value_of vs i) ≡ z)
unfolding has
has_map f z [] h = absurd (not_both h refl)
has_map f z (v ∷ vs) h =
    ⊎_elim (λ q. (0, suc-le-suc zero-le, sym (eqb-true z (f v) q))) (λ q. let r = has_map f z vs q in (suc r.0, suc-le-suc r.1, r.2)) (or_cases (eqb z (f v)) (has z (map f vs)) h)

distinct_map : (f : Value → ℕ) (vs : List Value) → ((i j : ℕ) → i < j → j < length vs → f (value_of vs i) ≡ f (value_of vs j) → ⊥) → Distinct (map f vs)
distinct_map f [] once = tt
distinct_map f (v ∷ vs) once = (
  no_test (has (f v) (map f vs)) (λ h. let r = has_map f (f v) vs h in once 0 (suc r.0) (suc-le-suc zero-le) (suc-le-suc r.1) (sym r.2)),
  distinct_map f vs (λ i j a b. once (suc i) (suc j) (suc-le-suc a) (suc-le-suc b)),
)

module _ (tab : Table) (F : Fits tab) (s : ℕ) (y : s < tab.signals) where
  -- the carried value has the number after those of all instances
  abbrev number_of : Value → ℕ
  number_of (carried r) = total (instances tab) tab.tasks
  number_of (by r k i) = total (instances tab) k + i

  number_one : (u v : Value) → IsValue tab u → IsValue tab v → signal_of u ≡ signal_of v → number_of u ≡ number_of v → u ≡ v
  number_one (carried r) (carried q) a b e n = ap carried e
  number_one (carried r) (by q k i) a b e n = absurd (omega (arith, block_lt (instances tab) k i tab.tasks b.1 b.3))
  number_one (by r k i) (carried q) a b e n = absurd (omega (arith, block_lt (instances tab) k i tab.tasks a.1 a.3))
  number_one (by r k i) (by q l j) a b e n =
      let z = block_one (instances tab) k i l j a.3 b.3 n in
      ap (λ (r : ℕ). by r k i) e ∙ ap (λ (k : ℕ). by q k i) z.0 ∙ ap (by q l) z.1

  number_low : (v : Value) → IsValue tab v → number_of v < suc (total (instances tab) tab.tasks)
  number_low (carried r) a = omega arith
  number_low (by r k i) a = omega (arith, block_lt (instances tab) k i tab.tasks a.1 a.3)

  pub few_values : length (values_of tab s) ≤ most_values
  few_values =
      let vs : List Value = values_of tab s in
      omega (
        arith,
        length-map vs number_of,
        F.few_instances,
        distinct (suc (total (instances tab) tab.tasks)) (map number_of vs)
            (distinct_map number_of vs (λ i j a b e.
            let u = value_of_lem tab F s y i (omega arith) in
            let v = value_of_lem tab F s y j b in
            value_once tab F s y i j a b (number_one (value_of vs i) (value_of vs j) u.0 v.0 (u.1 ∙ sym v.1) e)))
            (λ e h. let r = has_map number_of e vs h in subst (λ (x : ℕ). x < suc (total (instances tab) tab.tasks)) r.2 (number_low (value_of vs r.0) (value_of_lem tab F s y r.0 r.1).0)),
      )
