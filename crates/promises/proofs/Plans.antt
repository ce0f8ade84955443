-- Planning is right: specs/Plans.antt, proved.
use Rattle.std.specs.Prelude.{Result}
use Prim.Native.Nat.{ℕ}
use mathlib.Core.Path.{◌≡◌, sym, ap, subst, ◌∙◌}
use mathlib.Core.List.{List}
use mathlib.Core.Logic.{inl, inr, ⊎_elim}
use lib.ListN.{length}
use Rattle.rules.specs.Windows.{Table}
use Rattle.rules.specs.Table.{Fits}
use Rattle.rules.specs.Plan as plans
use Rattle.rules.specs.Bytes.{schedule_length}
use Rattle.rules.specs.Numbers.{Told, tell, all_done}
use Rattle.rules.specs.Reading.{table_in, read_says}
use Rattle.rules.specs.declared.Refusal.{Refusal}
use Rattle.theory.specs.First.{FirstBrokenElse, BrokenPlan, plan_rule_told, plan_rules}
use Rattle.theory.proofs.Planned.{no_fewer, no_fewer_in_all}
use Rattle.theory.proofs.Proved.{plan_answered, plan_says_first, whatever_is_read_keeps, bytes_checked_exactly}
use Rattle.fields.proofs.Told.{told_exact}
use Rattle.plan.specs.Gives.{PlanGives}
use Rattle.plan.proofs.Given.{done_where, says, says_refused, done, unchanged}
use Rattle.promises.specs.Plans.{PlansRightly, AllPlansRightly}

module _ (table out : List ℕ) (r : Result ℕ Refusal) (after : List ℕ) (g : PlanGives table out r after) where
  abbrev tab : Table
  tab = table_in table

  fits : (read_says table).number ≡ all_done → Fits tab
  fits e = (whatever_is_read_keeps table).accepted e

  rightly : PlansRightly table out r after
  rightly = record {
    table_refused = says_refused table out r after g;
    done = λ e. (
      (λ z. let d = done table out r after g z in ((plans.plan tab, d.passes), d.room)),
      λ p. ap (λ (t : Told). t.number) (says table out r after g e ∙ done_where tab (fits e) (length out) p.0.0 p.0.1 p.1),
    );
    first_broken = λ e. subst (FirstBrokenElse (BrokenPlan tab (length out)) (plan_rule_told tab) (tell all_done (schedule_length tab)) (plan_rules tab)) (sym (says table out r after g e)) (plan_says_first tab (length out));
    written = λ z. let d = done table out r after g z in (d.left, (bytes_checked_exactly tab (fits d.accepted)).complete (plans.plan tab) d.passes, d.tells);
    fewest = λ e E A. ((λ s y. no_fewer tab (fits e) s y E A), no_fewer_in_all tab (fits e) E A);
    too_many = λ m e E A.
        let q = sym (ap (λ (t : Told). t.number) (says table out r after g e)) in
        (plan_answered tab (fits e) (length out)).refused (⊎_elim (λ a. inl (q ∙ a)) (λ a. inr (q ∙ a)) m) E A;
    unchanged = unchanged table out r after g;
    one = λ q b h. (told_exact q r (h.0 ∙ sym g.0), h.1 ∙ sym g.1);
  }

pub all_plans_rightly : AllPlansRightly
all_plans_rightly = rightly
