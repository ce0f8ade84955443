-- Rules 7 to 11, one after the other.
use Rattle.std.specs.Prelude as Prelude
use Rattle.std.specs.Prelude.{Result, Ok, Err, Some, None}
use Rattle.std.specs.Option.{ok_or}
use Rattle.table.specs.Said.{hyper_or_0}
use Rattle.rules.specs.declared.Refusal.{Refusal}
use mathlib.Core.Option.{Option, none, some}
use mathlib.Core.Path.{◌≡◌, refl, ap, sym, subst, ◌∙◌}
use mathlib.Core.List.{[]}
use mathlib.Core.Bool.{cond, not}
use Prim.Native.Nat.{ℕ, ◌≤◌, ◌<◌}
use native.Mathlib.Omega.{arith}
use lib.Dec.{eqb, ltb}
use borrow.Author.Tests.{eq-eqb, ne_eqb, lt-ltb, le-ltb}
use Rattle.std.proofs.lemmas.Option.{none-some, same_Some}
use Rattle.rules.specs.Words.{total, lowest, when, maybe}
use Rattle.rules.specs.Windows.{Table, hyper, instances}
use Rattle.rules.specs.Table.{longest, most_instances, most_uses, accesses_of, uses, single, every_writer}
use Rattle.rules.specs.Numbers.{Told, tell, all_done, no_task, long_hyper, many_instances, many_uses, two_publish}
use Rattle.rules.specs.Answers.{table_says}
use Rattle.rules.specs.Reading.{Grid, table_of, accepted_hyper}
use Rattle.rules.specs.declared.Tasks.{Tasks}
use Rattle.rules.specs.declared.Signals.{Signals}
use Rattle.theory.proofs.Checked.{when_false}
use Rattle.windows.specs.Windowed.{AllWindowed}
use Rattle.windows.specs.Forms.{hyper_of}
use Rattle.windows.proofs.Periods.{IsHyper, hyper_is}
use Rattle.table.specs.Forms.{timed, instances_in, uses_in, first_clash}
use Rattle.table.proofs.Clashes.{clash_is}

-- the answers do not hang on the defaults
module _ (tasks : Tasks) (signals : Signals) (grid : Grid) where
  pub defaults_free : table_says (table_of tasks signals grid) ≡ table_says (timed tasks signals.count grid)
  unfolding table_says hyper uses accesses_of single every_writer
  defaults_free = refl

  pub hyper_free : hyper (table_of tasks signals grid) ≡ hyper (timed tasks signals.count grid)
  unfolding hyper
  hyper_free = refl

  pub accepted_free : accepted_hyper (table_of tasks signals grid) ≡ accepted_hyper (timed tasks signals.count grid)
  accepted_free = rw (defaults_free, hyper_free) refl

-- what a search found, in the words of rules and of the code
lowest_some : (o : Option ℕ) {s : ℕ} → maybe o None (λ k. Some k) ≡ Some s → o ≡ some s
lowest_some none e = absurd (none-some _ e)
lowest_some (some k) e = ap some (same_Some _ _ e)

lowest_none : (o : Option ℕ) → maybe o None (λ k. Some k) ≡ None → o ≡ none
lowest_none none e = refl
lowest_none (some k) e = absurd (none-some _ (sym e))

error_is : {h : ℕ} {x : Refusal} → Ok h ≡ Err x → ⊥
error_is e = grind (arith, e)

abbrev refusal : Result ℕ Refusal → Refusal
refusal (Ok h) = Refusal.Unfit
refusal (Err x) = x

-- what is said of a table, with the hyper-period where that is `done`
abbrev pub Said : Table → Told → ℕ → Type 0
Said tab t h = (t ≡ table_says tab) × (h ≡ accepted_hyper tab)

judged : (tab : Table) (t : Told) → t ≡ table_says tab → Said tab t (cond (eqb t.number all_done) (hyper tab) 0)
judged tab t e = (e, ap (λ (x : Told). cond (eqb x.number all_done) (hyper tab) 0) e)

-- ---- 7 and 8

pub says_no_task : (tab : Table) → tab.tasks ≡ 0 → Said tab (tell no_task 0) 0
unfolding table_says when
says_no_task tab z = judged tab (tell no_task 0) (simp (eq-eqb tab.tasks 0 z))

pub says_long : (tab : Table) → (tab.tasks ≡ 0 → ⊥) → longest < hyper tab → Said tab (tell long_hyper 0) 0
unfolding table_says when
says_long tab n l = judged tab (tell long_hyper 0) (simp (ne_eqb tab.tasks 0 n, lt-ltb longest (hyper tab) l))

-- ---- 9 to 11

module _ (tab : Table) (n : 0 < tab.tasks) (h : hyper tab ≤ longest) where
  -- past 7 and 8
  short : table_says tab
      ≡ when (ltb most_instances (total (instances tab) tab.tasks)) (tell many_instances 0)
      (when (ltb most_uses (uses tab)) (tell many_uses 0)
      (maybe (lowest (λ s. not (single tab s)) tab.signals) (tell all_done 0) (λ s. tell two_publish s)))
  unfolding table_says
  short = when_false (eqb tab.tasks 0) _ _ (ne_eqb tab.tasks 0 (λ z. omega arith)) ∙ when_false (ltb longest (hyper tab)) _ _ (le-ltb longest (hyper tab) h)

  -- and past 9 and 10
  few : total (instances tab) tab.tasks ≤ most_instances → uses tab ≤ most_uses
      → table_says tab ≡ maybe (lowest (λ s. not (single tab s)) tab.signals) (tell all_done 0) (λ s. tell two_publish s)
  few i u =
      short ∙ when_false (ltb most_instances (total (instances tab) tab.tasks)) _ _ (le-ltb most_instances (total (instances tab) tab.tasks) i)
      ∙ when_false (ltb most_uses (uses tab)) _ _ (le-ltb most_uses (uses tab) u)

-- by what the code counted in the hyper-period h
module _ (tasks : Tasks) (signals : ℕ) (grid : Grid) (w : AllWindowed tasks) (n : 0 < tasks.count) (h : ℕ) (l : h ≤ longest) (e : h ≡ hyper (timed tasks signals grid)) {a : ℕ} (i : a ≡ instances_in tasks h tasks.count) where
  abbrev tab : Table
  tab = timed tasks signals grid

  instances_are : a ≡ total (instances tab) tasks.count
  instances_are = i ∙ rw e refl

  pub says_instances : most_instances < a → Said tab (tell many_instances 0) 0
  unfolding when
  says_instances g =
      judged tab (tell many_instances 0)
      (rw (short tab n (omega arith), lt-ltb most_instances (total (instances tab) tasks.count) (omega (arith, instances_are))) refl)

  module _ (f : a ≤ most_instances) {b : ℕ} (u : b ≡ uses_in tasks signals grid h tasks.count) where
    uses_are : b ≡ uses tab
    unfolding uses accesses_of
    uses_are = u ∙ rw e refl

    pub says_uses : most_uses < b → Said tab (tell many_uses 0) 0
    unfolding when
    says_uses g =
        judged tab (tell many_uses 0)
        (rw (short tab n (omega arith), le-ltb most_instances (total (instances tab) tasks.count) (omega (arith, instances_are)), lt-ltb most_uses (uses tab) (omega (arith, uses_are))) refl)

    module _ (v : b ≤ most_uses) where
      found : table_says tab ≡ maybe (lowest (λ s. not (single tab s)) signals) (tell all_done 0) (λ s. tell two_publish s)
      found = few tab n (omega arith) (omega (arith, instances_are)) (omega (arith, uses_are))

      -- what the search for a clash found, as rules says it
      abbrev said_of : Option ℕ → Told
      said_of o = maybe o (tell all_done 0) (λ s. tell two_publish s)

      pub says_clash : {s : ℕ} → first_clash tasks signals grid ≡ Some s → Said tab (tell two_publish s) 0
      says_clash {s} c = judged tab (tell two_publish s) (sym (found ∙ ap said_of (lowest_some _ (sym (clash_is tasks signals grid w) ∙ c))))

      pub says_done : first_clash tasks signals grid ≡ None → Said tab (tell all_done 0) h
      says_done c = let j = judged tab (tell all_done 0) (sym (found ∙ ap said_of (lowest_none _ (sym (clash_is tasks signals grid w) ∙ c)))) in (j.0, e ∙ j.1)

-- ---- the hyper-period found is that of rules, and none is found where that is above the longest
module _ (tasks : Tasks) (signals : ℕ) (grid : Grid) {o : Prelude.Option ℕ} (e : hyper_of tasks ≡ o) where
  abbrev found_is : IsHyper (hyper (timed tasks signals grid)) o
  found_is = subst (IsHyper (hyper (timed tasks signals grid))) e (hyper_is tasks (record { defaults = []; count = signals }) grid)

  pub hyper_ticks : {h : ℕ} → ok_or o Refusal.LongHyper ≡ Ok h → (h ≡ hyper (timed tasks signals grid)) × (h ≤ longest)
  hyper_ticks {h} q = go o found_is q
    where
      go : (o : Prelude.Option ℕ) → IsHyper (hyper (timed tasks signals grid)) o → ok_or o Refusal.LongHyper ≡ Ok h → (h ≡ hyper (timed tasks signals grid)) × (h ≤ longest)
      go (Some r) (p, l) q = let z : r ≡ h = ap hyper_or_0 q in (sym z ∙ p, omega (arith, p, z))
      go None l q = absurd (error_is (sym q))

  pub hyper_above : {x : Refusal} → ok_or o Refusal.LongHyper ≡ Err x → (longest < hyper (timed tasks signals grid)) × (x ≡ Refusal.LongHyper)
  hyper_above {x} q = go o found_is q
    where
      go : (o : Prelude.Option ℕ) → IsHyper (hyper (timed tasks signals grid)) o → ok_or o Refusal.LongHyper ≡ Err x → (longest < hyper (timed tasks signals grid)) × (x ≡ Refusal.LongHyper)
      go (Some r) p q = absurd (error_is q)
      go None l q = (l, sym (ap refusal q))
