-- Each WI of a signal has its own number, so that the end of each life is kept at a place of its own.
use mathlib.Core.Path.{◌≡◌, refl, sym, ap, ap₂, subst, ◌∙◌}
use mathlib.Core.List.{List}
use mathlib.Core.Bool.{Bool, true, false}
use Prim.Native.Nat.{ℕ, suc, ◌+◌, ◌*◌, ◌≤◌, ◌<◌, zero-le}
use native.Mathlib.Nat.{le_refl}
use native.Mathlib.Omega.{arith}
use lib.Dec.{eqb}
use lib.ListN.{length, get_or, set, length-set}
use lib.Seq.{get_or-set_same, get_or-set_other}
use borrow.Author.Tests.{eqb-true, eqb-false}
use Rattle.rules.specs.Words.{total, times}
use Rattle.rules.specs.Windows.{Table, instances}
use Rattle.rules.specs.Values.{carried, by, until}
use Rattle.rules.specs.Table.{most_tasks, most_instances, most_values}
use Rattle.rules.specs.Bytes.{writers_below}
use Rattle.theory.proofs.Tests.{split}
use Rattle.rules.specs.declared.Side.{Side}
use Rattle.theory.proofs.Sums.{total_mono}
use Rattle.sweep.proofs.Inspected.{total_within}
use Rattle.accept.specs.declared.Accepted.{Accepted}
use Rattle.faults.specs.declared.view.View.{View}
use Rattle.faults.specs.declared.untils.Writer.{Writer}
use Rattle.faults.specs.Faults.{view_table, view_schedule, Has, records_in, view_records, held_of, number_of, KeptBelow, KeptTo, Kept, writer_of, held_at, InReach}
use Rattle.faults.proofs.Viewed.{has_each, has_below, none_below, place_is, places_apart, written_is, within, held_is}

times_le : (b : Bool) (n : ℕ) → times b n ≤ n
times_le true n = le_refl n
times_le false n = zero-le

module _ (v : View) where
  abbrev a : Accepted
  a = v.accepted.now

  abbrev tab : Table
  tab = view_table v

  abbrev s : ℕ
  s = v.signal

  abbrev number : ℕ → ℕ → ℕ
  number = number_of v

  -- lower tasks have lower numbers
  before : (k i n : ℕ) → Has v Side.Writers k i → k < n → number k i < number n 0
  unfolding writers_below records_in
  before k i n H h =
      let b : i < times (tab.writes s k) (instances tab k) = has_below v Side.Writers k i H in
      omega (arith, total_within (λ k. times (tab.writes s k) (instances tab k)) n k h)

  one_number : (k i l j : ℕ) → Has v Side.Writers k i → Has v Side.Writers l j → number k i ≡ number l j → (k ≡ l) × (i ≡ j)
  one_number k i l j a b e =
      let c : ¬ (k < l) = λ h. let z : ⊥ = omega (arith, before k i l a h) in z in
      let d : ¬ (l < k) = λ h. let z : ⊥ = omega (arith, before l j k b h) in z in
      let z : k ≡ l = omega arith in
      (z, omega (arith, ap (writers_below tab s) z))

  -- no task has more WI than instances
  few_numbers : writers_below tab s a.tasks.count ≤ most_instances
  unfolding writers_below
  few_numbers = omega (arith, total_mono (λ k. times (tab.writes s k) (instances tab k)) (instances tab) a.tasks.count (λ k h. times_le (tab.writes s k) (instances tab k)), a.fits.few_instances)

  number_low : (k i : ℕ) → Has v Side.Writers k i → number k i < most_instances
  number_low k i H = omega (arith, before k i a.tasks.count H H.0, few_numbers)

  -- the next task's numbers follow
  pub numbers_more : (k : ℕ) → number (suc k) 0 ≡ number k (records_in tab a.grid Side.Writers s k)
  unfolding writers_below total records_in
  numbers_more k =
      let e : writers_below tab s (suc k) ≡ writers_below tab s k + records_in tab a.grid Side.Writers s k = refl in
      omega arith

  pub kept_none : (untils : List ℕ) → length untils ≡ most_values → {u : ℕ} → u ≡ until tab (carried s) → KeptTo v 0 (set untils most_instances u)
  kept_none untils q {u} e = record {
    size = length-set untils most_instances u ∙ q;
    first = get_or-set_same untils most_instances u 0 (omega arith) ∙ e;
    ends = λ k i H h. absurd (omega (arith, none_below tab s));
  }

  pub kept_more : (untils : List ℕ) (k i : ℕ) {n u : ℕ} → Has v Side.Writers k i → n ≡ number k i → u ≡ until tab (by s k i) → KeptBelow v (number k i) untils → KeptBelow v (number k (i + 1)) (set untils n u)
  kept_more untils k i {n} {u} H q e A = record {
    size = length-set untils n u ∙ A.size;
    first = get_or-set_other untils n most_instances u 0 (λ x. let z : ⊥ = omega (arith, number_low k i H) in z) ∙ A.first;
    ends = λ l j L m. split (eqb (number l j) n)
        (λ x. let y = eqb-true (number l j) n x in
        let (a, b) = one_number l j k i L H (y ∙ q) in
        ap (λ (x : ℕ). get_or (set untils n u) x 0) y ∙ get_or-set_same untils n u 0 (omega (arith, A.size, number_low k i H)) ∙ e ∙ ap₂ (λ k i. until tab (by s k i)) (sym a) (sym b))
        (λ x. let y = eqb-false (number l j) n x in
        get_or-set_other untils n (number l j) u 0 y ∙ A.ends l j L (omega (arith, m)));
  }

  pub kept_end : (untils : List ℕ) → Kept v untils → (k i : ℕ) → Has v Side.Writers k i → get_or untils (number k i) 0 ≡ until tab (by s k i)
  kept_end untils A k i H = A.ends k i H (before k i a.tasks.count H H.0)

  pub kept_at : (untils : List ℕ) {n m : ℕ} → n ≡ m → KeptBelow v n untils → KeptBelow v m untils
  kept_at untils e A = subst (λ (n : ℕ). KeptBelow v n untils) e A

pub writers_asked : (v : View) (k : ℕ) → k < v.accepted.now.tasks.count → (k < most_tasks) × (get_or v.places.writers 0 0 ≤ get_or v.places.writers k 0)
writers_asked v k h = (omega (arith, v.accepted.now.fits.few_tasks), omega (arith, places_apart v k h))

module _ (v : View) (k : ℕ) {w : Writer} (e : w ≡ writer_of v k) where
  pub number_is : k < v.accepted.now.tasks.count → w.number ≡ writers_below (view_table v) v.signal k
  number_is h = ap (λ (w : Writer). w.number) e ∙ omega (arith, places_apart v k h)

  pub in_reach : (i : ℕ) → Has v Side.Writers k i → InReach w v.schedule.now i
  in_reach i H =
      let at = place_is v Side.Writers k i H in
      let f = ap (λ (w : Writer). w.first) e in
      let p = ap (λ (w : Writer). i * w.period + w.start) e in
      (omega (arith, at.0, at.1), omega (arith, number_is H.0, number_low v k i H), omega (arith, within v Side.Writers k i H))

  pub room : k < v.accepted.now.tasks.count → {n : ℕ} → n ≡ view_records v Side.Writers k → (i : ℕ) → i < n → w.number + i < most_instances
  room h q i l = (in_reach i (has_each v Side.Writers h q l)).1

  -- what is kept is the value's life
  pub value_is : (untils : List ℕ) → Kept v untils → (i : ℕ) → Has v Side.Writers k i → held_at w untils v.schedule.now i ≡ held_of (view_table v) (view_schedule v) (by v.signal k i)
  value_is untils A i H =
      ap (λ (w : Writer). held_at w untils v.schedule.now i) e
      ∙ held_is _ (written_is v k i H) (ap (λ n. get_or untils (n + i) 0) (sym (ap (λ (w : Writer). w.number) e) ∙ number_is H.0) ∙ kept_end v untils A k i H)
