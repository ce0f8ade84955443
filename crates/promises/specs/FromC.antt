-- What C is given by the functions that are not the machine's is what the functions they stand for give: number, place and what is left in what is lent.
-- So every promise about those holds of these. The machine's own are in Runs. proofs/FromC.antt proves it. Assumes nothing.
use Rattle.std.specs.Prelude.{ℕ, ◌≡◌, List, Result}
use Rattle.rules.specs.Numbers.{tell, told}
use Rattle.rules.specs.declared.Refusal.{Refusal}
use Rattle.table.specs.declared.reading.TableRead.{TableRead}
use Rattle.table.specs.Said.{answer_of}
use Rattle.table.specs.Gives.{TableGives}
use Rattle.plan.specs.Gives.{PlanGives}
use Rattle.lives.specs.declared.LiveValue.{LiveValue}
use Rattle.lives.specs.Gives.{ListGives}
use Rattle.inspect.specs.Gives.{CheckGives}
use Rattle.export.specs.Gives.{PressTableGives, PressPlanGives, PressCheckGives, PressLiveGives}

pub record SameFromC : Type 0 where
  -- press_table as read_table
  pub table : (bytes : List ℕ) (number place : ℕ) → PressTableGives bytes number place → (r : TableRead) → TableGives bytes r → told (answer_of r.hyper) ≡ tell number place
  -- press_plan as plan
  pub plan : (table out : List ℕ) (number place : ℕ) (after : List ℕ) → PressPlanGives table out number place after
      → (r : Result ℕ Refusal) (left : List ℕ) → PlanGives table out r left → (told r ≡ tell number place) × (left ≡ after)
  -- press_check as check_schedule
  pub check : (table schedule : List ℕ) (number place : ℕ) → PressCheckGives table schedule number place → (r : Result ℕ Refusal) → CheckGives table schedule r → told r ≡ tell number place
  -- press_live as live_list
  pub live : (table : List ℕ) (signal : ℕ) (list : List LiveValue) (number place : ℕ) (after : List LiveValue) → PressLiveGives table signal list number place after
      → (r : Result ℕ Refusal) (left : List LiveValue) → ListGives table signal list r left → (told r ≡ tell number place) × (left ≡ after)
