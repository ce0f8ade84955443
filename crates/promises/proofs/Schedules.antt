-- Schedules are checked exactly: specs/Schedules.antt, proved.
use Rattle.std.specs.Prelude.{Ok}
use Prim.Native.Nat.{ℕ}
use mathlib.Core.Path.{◌≡◌, sym, ap, subst, ◌∙◌}
use mathlib.Core.Bool.{not}
use mathlib.Core.List.{List}
use lib.ListN.{take}
use borrow.Author.Tests.{eq-eqb, ne_eqb}
use Rattle.rules.specs.Schedule.{Schedule, Passes}
use Rattle.rules.specs.Plan as plans
use Rattle.rules.specs.Bytes.{bytes_of, schedule_in}
use Rattle.rules.specs.Numbers.{Told, tell, told, all_done}
use Rattle.rules.specs.Answers.{check_says}
use Rattle.rules.specs.Reading.{table_in, read_says}
use Rattle.rules.specs.Loading.{load_says}
use Rattle.theory.specs.First.{FirstBroken, BrokenCheck, check_told, check_rules}
use Rattle.theory.proofs.Loads.{both_accepted}
use Rattle.theory.proofs.Proved.{bytes_checked_exactly, check_says_first, whatever_is_read_keeps}
use Rattle.fields.proofs.Told.{told_exact}
use Rattle.fields.proofs.Whens.{on, off}
use Rattle.plan.proofs.Given.{done}
use Rattle.promises.specs.Schedules.{SchedulesExactly, PlansPass}

-- ---- what the table and then the schedule say

module _ (table schedule : List ℕ) where
  refused_first : ((read_says table).number ≡ all_done → ⊥) → load_says table schedule ≡ read_says table
  unfolding load_says
  refused_first n = on _ _ (ap not (ne_eqb (read_says table).number all_done n))

  read_first : (read_says table).number ≡ all_done → load_says table schedule ≡ check_says (table_in table) schedule
  unfolding load_says
  read_first e = off _ _ (ap not (eq-eqb (read_says table).number all_done e))

  pub passing_done : (read_says table).number ≡ all_done → (E : Schedule) → Passes (table_in table) E → schedule ≡ bytes_of (table_in table) E → load_says table schedule ≡ tell all_done 0
  passing_done e E A b = read_first e ∙ ap (check_says (table_in table)) b ∙ (bytes_checked_exactly (table_in table) ((whatever_is_read_keeps table).accepted e)).complete E A

  pub done_passing : (load_says table schedule).number ≡ all_done → ((read_says table).number ≡ all_done) × ((E : Schedule) × Passes (table_in table) E × (schedule ≡ bytes_of (table_in table) E))
  done_passing e =
      let (x, y) = both_accepted table schedule (eq-eqb (load_says table schedule).number all_done e) in
      let (b, A) = (bytes_checked_exactly (table_in table) ((whatever_is_read_keeps table).accepted x)).sound schedule y in
      (x, (schedule_in (table_in table) schedule, A, b))

-- ---- the check

pub schedules_exactly : SchedulesExactly
schedules_exactly table schedule r g = record {
  table_refused = λ n. g ∙ refused_first table schedule n;
  accepted = λ e. ((λ z. (done_passing table schedule (number z)).1), λ (E, A, b). ap (λ (t : Told). t.number) (g ∙ passing_done table schedule e E A b));
  first_broken = λ e. subst (FirstBroken (BrokenCheck (table_in table) schedule) (check_told (table_in table)) (check_rules (table_in table)))
      (sym (g ∙ read_first table schedule e)) (check_says_first (table_in table) ((whatever_is_read_keeps table).accepted e) schedule);
  done = λ z. let (e, (E, A, b)) = done_passing table schedule (number z) in (e, told_exact r (Ok 0) (g ∙ passing_done table schedule e E A b));
  one = λ q h. told_exact q r (h ∙ sym g);
}
  where
    number : (told r).number ≡ all_done → (load_says table schedule).number ≡ all_done
    number z = sym (ap (λ (t : Told). t.number) g) ∙ z

-- ---- the plan's schedule

pub plans_pass : PlansPass
plans_pass table out r after g z q h =
    let d = done table out r after g z in
    told_exact q (Ok 0) (h ∙ passing_done table (take (told r).place after) d.accepted (plans.plan (table_in table)) d.passes d.front)
