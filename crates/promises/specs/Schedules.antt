-- Demand 2, about `inspect::check_schedule`: with an accepted table a schedule passes exactly when document 01's words hold of it, else the first rule
-- that is broken is told; and what `plan::plan` writes passes. proofs/Schedules.antt proves it. Assumes nothing.
use Rattle.std.specs.Prelude.{ℕ, ◌≡◌, List, ◌↔◌, take, Result, Ok}
use Rattle.rules.specs.Schedule.{Schedule, Passes}
use Rattle.rules.specs.Bytes.{bytes_of}
use Rattle.rules.specs.Numbers.{told, all_done}
use Rattle.rules.specs.Reading.{table_in, read_says}
use Rattle.rules.specs.declared.Refusal.{Refusal}
use Rattle.theory.specs.First.{FirstBroken, BrokenCheck, check_told, check_rules}
use Rattle.plan.specs.Gives.{PlanGives}
use Rattle.inspect.specs.Gives.{CheckGives}

pub record ChecksExactly (table schedule : List ℕ) (r : Result ℕ Refusal) : Type 0 where
  -- A table that is refused is refused with its own number and place.
  pub table_refused : ((read_says table).number ≡ all_done → ⊥) → told r ≡ read_says table
  -- Of an accepted table: done exactly where the bytes are those of a schedule that passes. `Passes` has document 01's words, and speaks of ticks:
  -- at no tick are two values of one signal live in one element.
  pub accepted : (read_says table).number ≡ all_done → ((told r).number ≡ all_done) ↔ ((E : Schedule) × Passes (table_in table) E × (schedule ≡ bytes_of (table_in table) E))
  -- Of an accepted table: the first rule of 15 to 22 that is broken gives number and place, and 0 at 0 is told where none is.
  pub first_broken : (read_says table).number ≡ all_done → FirstBroken (BrokenCheck (table_in table) schedule) (check_told (table_in table)) (check_rules (table_in table)) (told r)
  -- A refused table never passes: 0 is told of accepted tables only.
  pub done : (told r).number ≡ all_done → ((read_says table).number ≡ all_done) × (r ≡ Ok 0)
  -- No other answer meets the contract.
  pub one : (q : Result ℕ Refusal) → CheckGives table schedule q → q ≡ r

-- So it is for any bytes.
abbrev pub SchedulesExactly : Type 0
SchedulesExactly = (table schedule : List ℕ) (r : Result ℕ Refusal) → CheckGives table schedule r → ChecksExactly table schedule r

-- The two functions together: the bytes that `plan` tells at the front of the buffer pass `check_schedule` with the same table.
abbrev pub PlansPass : Type 0
PlansPass = (table out : List ℕ) (r : Result ℕ Refusal) (after : List ℕ) → PlanGives table out r after → (told r).number ≡ all_done
    → (q : Result ℕ Refusal) → CheckGives table (take (told r).place after) q → q ≡ Ok 0
