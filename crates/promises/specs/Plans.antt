-- Demand 2, last sentence, about `plan::plan`: its plan passes the check, no passing schedule gives any signal fewer elements, and too many elements
-- is its refusal only where no schedule passes. proofs/Plans.antt proves it. Assumes nothing.
use Rattle.std.specs.Prelude.{ℕ, ◌≤◌, ◌<◌, ◌≡◌, List, ◌++◌, ◌↔◌, ◌⊎◌, length, drop, Result}
use Rattle.rules.specs.Schedule.{Schedule, base, Passes}
use Rattle.rules.specs.Plan as plans
use Rattle.rules.specs.Bytes.{bytes_of, schedule_length}
use Rattle.rules.specs.Numbers.{tell, told, all_done, many_elements, many_in_all}
use Rattle.rules.specs.Answers.{check_says}
use Rattle.rules.specs.Reading.{table_in, read_says}
use Rattle.rules.specs.declared.Refusal.{Refusal}
use Rattle.theory.specs.First.{FirstBrokenElse, BrokenPlan, plan_rule_told, plan_rules}
use Rattle.plan.specs.Gives.{PlanGives}

pub record PlansRightly (table out : List ℕ) (r : Result ℕ Refusal) (after : List ℕ) : Type 0 where
  -- A table that is refused is refused with its own number and place.
  pub table_refused : ((read_says table).number ≡ all_done → ⊥) → told r ≡ read_says table
  -- Of an accepted table: planning is done exactly where some schedule passes, given room in the buffer.
  pub done : (read_says table).number ≡ all_done → ((told r).number ≡ all_done) ↔ (((E : Schedule) × Passes (table_in table) E) × (schedule_length (table_in table) ≤ length out))
  -- Of an accepted table: the first rule of 12 to 14 that is broken gives number and place; where none is, the bytes written are told.
  pub first_broken : (read_says table).number ≡ all_done
      → FirstBrokenElse (BrokenPlan (table_in table) (length out)) (plan_rule_told (table_in table)) (tell all_done (schedule_length (table_in table))) (plan_rules (table_in table)) (told r)
  -- What it writes at the front passes the check, the answer tells its bytes, and the bytes after it stay.
  pub written : (told r).number ≡ all_done
      → (after ≡ bytes_of (table_in table) (plans.plan (table_in table)) ++ drop (schedule_length (table_in table)) out)
      × (check_says (table_in table) (bytes_of (table_in table) (plans.plan (table_in table))) ≡ tell all_done 0) × (told r ≡ tell all_done (schedule_length (table_in table)))
  -- No schedule that passes gives any signal fewer elements, nor all of them together.
  pub fewest : (read_says table).number ≡ all_done → (E : Schedule) → Passes (table_in table) E
      → ((s : ℕ) → s < (table_in table).signals → (plans.plan (table_in table)).count s ≤ E.count s) × (base (plans.plan (table_in table)) (table_in table).signals ≤ base E (table_in table).signals)
  -- Too many elements, of one signal or in all, are told only where no schedule passes.
  pub too_many : ((told r).number ≡ many_elements) ⊎ ((told r).number ≡ many_in_all) → (read_says table).number ≡ all_done → (E : Schedule) → Passes (table_in table) E → ⊥
  -- A refusal changes nothing.
  pub unchanged : ((told r).number ≡ all_done → ⊥) → after ≡ out
  -- No other answer, and no other contents of the buffer, meet the contract.
  pub one : (q : Result ℕ Refusal) (b : List ℕ) → PlanGives table out q b → (q ≡ r) × (b ≡ after)

-- So it is for any bytes and any buffer.
abbrev pub AllPlansRightly : Type 0
AllPlansRightly = (table out : List ℕ) (r : Result ℕ Refusal) (after : List ℕ) → PlanGives table out r after → PlansRightly table out r after
