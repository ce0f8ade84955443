-- What follows from the contract of `plan`. Assumes nothing.
use Rattle.std.specs.Prelude.{Result}
use Prim.Native.Nat.{ℕ, ◌≤◌}
use mathlib.Core.Path.{◌≡◌, sym, ap, ◌∙◌}
use mathlib.Core.List.{List, ◌++◌}
use native.Mathlib.Omega.{arith}
use lib.Dec.{ltb, eqb}
use lib.ListN.{length, take, drop}
use lib.Seq.{take_at}
use borrow.Author.Tests.{eq-eqb, ne_eqb, eqb-true, eqb-false, le-ltb}
use Rattle.rules.specs.Windows.{Table}
use Rattle.rules.specs.Table.{Fits}
use Rattle.rules.specs.Schedule.{Schedule, base, room, Passes}
use Rattle.rules.specs.Plan.{plan}
use Rattle.rules.specs.Bytes.{bytes_of, schedule_length}
use Rattle.rules.specs.Numbers.{Told, tell, told, all_done}
use Rattle.rules.specs.Answers.{plan_says}
use Rattle.rules.specs.Reading.{table_in, read_says}
use Rattle.rules.specs.declared.Refusal.{Refusal}
use Rattle.theory.proofs.Tests.{split}
use Rattle.theory.proofs.Checked.{when_false}
use Rattle.theory.proofs.Laid.{bytes_length}
use Rattle.theory.proofs.Answered.{plan_says_lem, plan_answers}
use Rattle.theory.proofs.Planned.{no_fewer_in_all}
use Rattle.theory.proofs.TableRead.{read_keeps}
use Rattle.fields.proofs.Whens.{on, off}
use Rattle.plan.specs.Planning.{plan_told, planned_into, plan_out}
use Rattle.plan.specs.Gives.{PlanGives}

-- ---- of an accepted table

module _ (tab : Table) (F : Fits tab) (lent : ℕ) where
  -- where a schedule passes and the buffer has room, planning is done
  pub done_where : (E : Schedule) → Passes tab E → schedule_length tab ≤ lent → plan_says tab lent ≡ tell all_done (schedule_length tab)
  done_where E A h =
      plan_says_lem tab F lent
      ∙ when_false (ltb (room tab) (base (plan tab) tab.signals)) _ _ (le-ltb (room tab) (base (plan tab) tab.signals) (omega (arith, no_fewer_in_all tab F E A, A.in_all)))
      ∙ when_false (ltb lent (schedule_length tab)) _ _ (le-ltb lent (schedule_length tab) h)

  -- and where it is done, the plan passes and fits
  done_gives : (plan_says tab lent).number ≡ all_done → Passes tab (plan tab) × (schedule_length tab ≤ lent)
  done_gives e = let p = (plan_answers tab F lent).passes e in (p.0, omega (arith, p.1, bytes_length tab (plan tab)))

into_done : (tab : Table) (out : List ℕ) → (plan_says tab (length out)).number ≡ all_done → planned_into tab out ≡ bytes_of tab (plan tab) ++ drop (schedule_length tab) out
unfolding planned_into
into_done tab out e = on _ _ (eq-eqb (plan_says tab (length out)).number all_done e)

into_refused : (tab : Table) (out : List ℕ) → ((plan_says tab (length out)).number ≡ all_done → ⊥) → planned_into tab out ≡ out
unfolding planned_into
into_refused tab out n = off _ _ (ne_eqb (plan_says tab (length out)).number all_done n)

-- ---- by whether the table is accepted

module _ (table out : List ℕ) where
  accepted_told : (read_says table).number ≡ all_done → plan_told table (length out) ≡ plan_says (table_in table) (length out)
  unfolding plan_told
  accepted_told e = on _ _ (eq-eqb (read_says table).number all_done e)

  refused_told : ((read_says table).number ≡ all_done → ⊥) → plan_told table (length out) ≡ read_says table
  unfolding plan_told
  refused_told n = off _ _ (ne_eqb (read_says table).number all_done n)

  accepted_out : (read_says table).number ≡ all_done → plan_out table out ≡ planned_into (table_in table) out
  unfolding plan_out
  accepted_out e = on _ _ (eq-eqb (read_says table).number all_done e)

  refused_out : ((read_says table).number ≡ all_done → ⊥) → plan_out table out ≡ out
  unfolding plan_out
  refused_out n = off _ _ (ne_eqb (read_says table).number all_done n)

-- what number 0 comes with
pub record Done (table out : List ℕ) (r : Result ℕ Refusal) (after : List ℕ) : Type 0 where
  pub accepted : (read_says table).number ≡ all_done
  pub done : (plan_says (table_in table) (length out)).number ≡ all_done
  pub passes : Passes (table_in table) (plan (table_in table))
  pub room : schedule_length (table_in table) ≤ length out
  pub tells : told r ≡ tell all_done (schedule_length (table_in table))
  pub left : after ≡ bytes_of (table_in table) (plan (table_in table)) ++ drop (schedule_length (table_in table)) out
  pub front : take (told r).place after ≡ bytes_of (table_in table) (plan (table_in table))

module _ (table out : List ℕ) (r : Result ℕ Refusal) (after : List ℕ) (g : PlanGives table out r after) where
  abbrev tab : Table
  tab = table_in table

  pub says : (read_says table).number ≡ all_done → told r ≡ plan_says tab (length out)
  says e = g.0 ∙ accepted_told table out e

  pub says_refused : ((read_says table).number ≡ all_done → ⊥) → told r ≡ read_says table
  says_refused n = g.0 ∙ refused_told table out n

  -- number 0 comes of an accepted table only
  read_accepted : (told r).number ≡ all_done → (read_says table).number ≡ all_done
  read_accepted z =
      split (eqb (read_says table).number all_done)
      (λ q. eqb-true (read_says table).number all_done q)
      (λ q. let n = eqb-false (read_says table).number all_done q in absurd (n (sym (ap (λ (t : Told). t.number) (says_refused n)) ∙ z)))

  pub done : (told r).number ≡ all_done → Done table out r after
  done z =
      let e = read_accepted z in
      let F = (read_keeps table).accepted e in
      let d : (plan_says tab (length out)).number ≡ all_done = sym (ap (λ (t : Told). t.number) (says e)) ∙ z in
      let (A, h) = done_gives tab F (length out) d in
      let t = says e ∙ done_where tab F (length out) (plan tab) A h in
      let l = g.1 ∙ accepted_out table out e ∙ into_done tab out d in
      record {
        accepted = e;
        done = d;
        passes = A;
        room = h;
        tells = t;
        left = l;
        front = ap (λ (t : Told). take t.place after) t ∙ ap (take (schedule_length tab)) l ∙ take_at (bytes_of tab (plan tab)) (drop (schedule_length tab) out) (schedule_length tab) (bytes_length tab (plan tab));
      }

  pub unchanged : ((told r).number ≡ all_done → ⊥) → after ≡ out
  unchanged n =
      g.1 ∙ split (eqb (read_says table).number all_done)
      (λ q. let e = eqb-true (read_says table).number all_done q in
      accepted_out table out e ∙ into_refused tab out (λ z. n (ap (λ (t : Told). t.number) (says e) ∙ z)))
      (λ q. refused_out table out (eqb-false (read_says table).number all_done q))
