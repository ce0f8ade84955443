-- Signal by signal the passes make the plan, and its bytes are those of the counts and elements. Assumes nothing.
use mathlib.Core.List.{List, [], ◌∷◌, ◌++◌}
use mathlib.Core.Logic.{inl}
use mathlib.Core.Path.{◌≡◌, refl, sym, ap, ap₂, subst, ◌∙◌}
use native.Mathlib.Nat.{le_refl}
use Prim.Native.Nat.{ℕ, zero, suc, ◌≤◌, ◌<◌}
use native.Mathlib.Omega.{arith}
use lib.Dec.{eqb}
use lib.ListN.{length, get_or, set, take, drop, replicate, length-set, length-replicate}
use lib.Seq.{get_or-set_same, get_or-set_other}
use borrow.Author.Tests.{lt-ltb, le-ltb, eqb-true, eqb-false, eq-eqb, ne_eqb}
use Rattle.rules.specs.Words.{total}
use Rattle.rules.specs.Windows.{Table, hyper}
use Rattle.rules.specs.Table.{most_signals, most_uses, Fits}
use Rattle.rules.specs.Schedule.{Schedule, room, base}
use Rattle.rules.specs.Plan.{plan}
use Rattle.rules.specs.Bytes.{Part, bf, wi, ri, fixed, free, writers_below, readers_below, parts, records_of, bytes_of, schedule_length}
use Rattle.rules.specs.Numbers.{Told, tell}
use Rattle.rules.specs.Answers.{plan_says}
use Rattle.rules.specs.Reading.{Grid, table_of}
use Rattle.rules.specs.declared.Tasks.{Tasks}
use Rattle.rules.specs.declared.Signals.{Signals}
use Rattle.theory.specs.Sweep.{events, acted}
use Rattle.theory.specs.Chosen.{first_use, use_of, IsUse, Choice, chosen}
use Rattle.theory.proofs.Tests.{split, past, here}
use Rattle.theory.proofs.Lists.{All}
use Rattle.theory.proofs.Checked.{Of, parts_of_lem}
use Rattle.theory.proofs.Answered.{plan_says_lem}
use Rattle.theory.proofs.Chosen.{first_upto, use_within, plan_chosen}
use Rattle.schedule.specs.Writing.{uses_before, number_of, schedule_of}
use Rattle.elements.specs.Pass.{pass_table}
use Rattle.plan.specs.Uses.{uses_planned, counts_planned}
use Rattle.plan.specs.Planning.{planned_into}
use Rattle.form.proofs.Tables.{total_below}
use Rattle.std.specs.List.{sum}
use Rattle.plan.proofs.Laying.{total_sum}

-- the bytes depend on the counts and elements of the records alone
records_same : (tab : Table) (D E : Schedule) (xs : List Part) → All (λ x. free D x ≡ free E x) xs → records_of tab D xs ≡ records_of tab E xs
unfolding records_of
records_same tab D E [] a = refl
records_same tab D E (x ∷ xs) a = ap₂ (λ (b : ℕ) (bs : List ℕ). fixed x ++ b ∷ bs) a.0 (records_same tab D E xs a.1)

all_map : (P Q : Part → Type 0) → ((x : Part) → P x → Q x) → (xs : List Part) → All P xs → All Q xs
all_map P Q f [] a = tt
all_map P Q f (x ∷ xs) a = (f x a.0, all_map P Q f xs a.1)

module _ (tasks : Tasks) (S : Signals) (grid : Grid) where
  abbrev tab : Table
  tab = table_of tasks S grid

  -- the pass does not look at the number of signals
  same_chosen : (s : ℕ) (uses : List ℕ) → chosen (pass_table tasks grid) s uses ≡ chosen tab s uses
  unfolding chosen acted first_use writers_below readers_below hyper events
  same_chosen s uses = refl

  number_is : (x : Part) → number_of tab x ≡ use_of tab x
  unfolding number_of uses_before first_use
  number_is (bf s) = refl
  number_is (wi s k i) = omega arith
  number_is (ri s k i) = omega arith

  module _ (F : Fits tab) (counts uses : List ℕ) (c : length counts ≡ most_signals) (u : length uses ≡ most_uses) where
    abbrev counts_of : ℕ → List ℕ
    counts_of n = counts_planned (pass_table tasks grid) counts uses n

    abbrev elements_of : ℕ → List ℕ
    elements_of n = uses_planned (pass_table tasks grid) uses n

    -- the signals below n have the plan's elements
    record Right (n : ℕ) (after : List ℕ) : Type 0 where
      pub size : length after ≡ most_uses
      pub elements : (s : ℕ) → s < n → (x : Part) → IsUse tab s x → get_or after (use_of tab x) 0 ≡ free (plan tab) x

    uses_right : (n : ℕ) → n ≤ S.count → Right n (elements_of n)
    unfolding uses_planned
    uses_right zero h = record { size = u; elements = λ s l. absurd (omega arith) }
    uses_right (suc n) h =
        let R = uses_right n (omega arith) in
        let C = (plan_chosen tab F n h (elements_of n) R.size).elements in
        subst (λ (d : Choice). Right (suc n) d.uses) (sym (same_chosen n (elements_of n))) (record {
          size = C.size ∙ R.size;
          elements = λ s l x i. split (eqb s n)
              (λ q. C.right x (subst (λ s. IsUse tab s x) (eqb-true s n q) i))
              (λ q. let z = eqb-false s n q in
              C.outside (use_of tab x) (inl (omega (arith, use_within tab s x i, first_upto tab (suc s) n (omega arith)))) ∙ R.elements s (omega arith) x i);
        })

    -- and its counts
    record Counted (n : ℕ) (after : List ℕ) : Type 0 where
      pub size : length after ≡ most_signals
      pub each : (s : ℕ) → s < n → get_or after s 0 ≡ (plan tab).count s

    counts_right : (n : ℕ) → n ≤ S.count → Counted n (counts_of n)
    unfolding counts_planned
    counts_right zero h = record { size = c; each = λ s l. absurd (omega arith) }
    counts_right (suc n) h =
        let R = counts_right n (omega arith) in
        let C = (plan_chosen tab F n h (elements_of n) (uses_right n (omega arith)).size).count in
        subst (λ (x : ℕ). Counted (suc n) (set (counts_of n) n x)) (sym (ap (λ (d : Choice). d.count) (same_chosen n (elements_of n)) ∙ C)) (record {
          size = length-set (counts_of n) n ((plan tab).count n) ∙ R.size;
          each = λ s l. split (eqb s n)
              (λ q. rw (eqb-true s n q, get_or-set_same (counts_of n) n ((plan tab).count n) 0 (omega (arith, R.size, F.few_signals))))
              (λ q. let z = eqb-false s n q in rw (get_or-set_other (counts_of n) n s ((plan tab).count n) 0 z) (R.each s (omega arith)));
        })

    module _ (n : ℕ) (e : S.count ≡ n) where
      pub sum_is : total (λ s. get_or (counts_of n) s 0) n ≡ base (plan tab) S.count
      unfolding base
      sum_is = total_below _ _ n (λ s l. (counts_right n (omega arith)).each s l) ∙ ap (total (plan tab).count) (sym e)

      free_is : (x : Part) → Of tab x → free (schedule_of tab (counts_of n) (elements_of n)) x ≡ free (plan tab) x
      free_is (bf s) o = (counts_right n (omega arith)).each s (omega arith)
      free_is (wi s k i) (y, m, w, h) = rw (number_is (wi s k i)) ((uses_right n (omega arith)).elements s (omega arith) (wi s k i) (refl, m, w, h))
      free_is (ri s k i) (y, m, w, h) = rw (number_is (ri s k i)) ((uses_right n (omega arith)).elements s (omega arith) (ri s k i) (refl, m, w, h))

      pub bytes_are : bytes_of tab (schedule_of tab (counts_of n) (elements_of n)) ≡ bytes_of tab (plan tab)
      unfolding bytes_of
      bytes_are = records_same tab (schedule_of tab (counts_of n) (elements_of n)) (plan tab) (parts tab) (all_map (Of tab) _ free_is (parts tab) (parts_of_lem tab))

  -- the code starts from zeros
  abbrev pub no_counts : List ℕ
  no_counts = replicate most_signals 0

  abbrev pub no_uses : List ℕ
  no_uses = replicate most_uses 0

  module _ (F : Fits tab) (C U : List ℕ) (a : C ≡ counts_planned (pass_table tasks grid) no_counts no_uses S.count) (b : U ≡ uses_planned (pass_table tasks grid) no_uses S.count) where
    pub sum_of : (n : ℕ) → n ≡ sum (take S.count C) → n ≡ base (plan tab) S.count
    sum_of n e =
        let size : S.count ≤ length C = rw a (omega (arith, (counts_right F no_counts no_uses (length-replicate {A = ℕ} most_signals 0) (length-replicate {A = ℕ} most_uses 0) S.count (le_refl S.count)).size, F.few_signals)) in
        e ∙ total_sum C S.count size ∙ ap (λ (C : List ℕ). total (λ s. get_or C s 0) S.count) a ∙ sum_is F no_counts no_uses (length-replicate {A = ℕ} most_signals 0) (length-replicate {A = ℕ} most_uses 0) S.count refl

    pub bytes_of_lem : bytes_of tab (schedule_of tab C U) ≡ bytes_of tab (plan tab)
    bytes_of_lem =
        ap₂ (λ (C U : List ℕ). bytes_of tab (schedule_of tab C U)) a b
        ∙ bytes_are F no_counts no_uses (length-replicate {A = ℕ} most_signals 0) (length-replicate {A = ℕ} most_uses 0) S.count refl

-- ---- the answers 13, 14 and 0, and what the buffer holds then

module _ (tab : Table) (F : Fits tab) (out : List ℕ) where
  pub over : room tab < base (plan tab) tab.signals → (tell 13 0 ≡ plan_says tab (length out)) × (out ≡ planned_into tab out)
  unfolding planned_into
  over a =
      let e = plan_says_lem tab F (length out) ∙ here _ _ _ (lt-ltb _ _ a) in
      (sym e, sym (past _ _ _ (ne_eqb _ _ (λ (z : (plan_says tab (length out)).number ≡ 0). let w : ⊥ = omega (arith, ap (λ (t : Told). t.number) e) in w))))

  pub short : base (plan tab) tab.signals ≤ room tab → length out < schedule_length tab → (tell 14 (schedule_length tab) ≡ plan_says tab (length out)) × (out ≡ planned_into tab out)
  unfolding planned_into
  short a b =
      let e = plan_says_lem tab F (length out) ∙ past _ _ _ (le-ltb _ _ a) ∙ here _ _ _ (lt-ltb _ _ b) in
      (sym e, sym (past _ _ _ (ne_eqb _ _ (λ (z : (plan_says tab (length out)).number ≡ 0). let w : ⊥ = omega (arith, ap (λ (t : Told). t.number) e) in w))))

  pub whole : base (plan tab) tab.signals ≤ room tab → schedule_length tab ≤ length out
      → (tell 0 (schedule_length tab) ≡ plan_says tab (length out)) × (bytes_of tab (plan tab) ++ drop (schedule_length tab) out ≡ planned_into tab out)
  unfolding planned_into
  whole a b =
      let e = plan_says_lem tab F (length out) ∙ past _ _ _ (le-ltb _ _ a) ∙ past _ _ _ (le-ltb _ _ b) in
      (sym e, sym (here _ _ _ (eq-eqb _ _ (ap (λ (t : Told). t.number) e))))
