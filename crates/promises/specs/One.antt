-- Document 01, "How tight the contracts are": of every public function, two results, with the final contents of what is lent, that meet its contract
-- are equal. Each clause stands under the function's name and has the very contract that the function's `ensures` cites; `.ci/surface` holds both against
-- the sources. proofs/One.antt proves it. Assumes nothing.
use Rattle.std.specs.Prelude.{ℕ, ◌≡◌, List, Option, Result}
use Rattle.std.specs.Borrow.{Bor}
use Rattle.rules.specs.Reading.{Grid}
use Rattle.rules.specs.declared.Task.{Task}
use Rattle.rules.specs.declared.Access.{Access}
use Rattle.rules.specs.declared.Refusal.{Refusal}
use Rattle.records.specs.declared.Cursor.{Cursor}
use Rattle.records.specs.Gives.{TaskGives, SignalGives, AccessGives, EndGives}
use Rattle.reader.specs.declared.Reader.{Reader}
use Rattle.reader.specs.Gives.{ReaderGives}
use Rattle.sections.specs.Gives.{GridGives}
use Rattle.plan.specs.Gives.{PlanGives}
use Rattle.text.specs.Gives.{ListingGives}
use Rattle.table.specs.declared.reading.TableRead.{TableRead}
use Rattle.table.specs.Gives.{TableGives}
use Rattle.lives.specs.declared.LiveValue.{LiveValue}
use Rattle.lives.specs.declared.list.Lived.{Lived}
use Rattle.lives.specs.Gives.{ListGives, LentGives}
use Rattle.inspect.specs.Gives.{CheckGives}
use Rattle.answers.specs.Gives.{NumberGives, PlaceGives}
use Rattle.machine.specs.declared.Machine.{Machine}
use Rattle.machine.specs.declared.Stepped.{Stepped}
use Rattle.machine.specs.declared.WordRead.{WordRead}
use Rattle.machine.specs.declared.InstanceRead.{InstanceRead}
use Rattle.machine.specs.Load.{Loads}
use Rattle.machine.specs.Gives.{NewGives, StepGives, ReadGives, WriteGives, ListsLoadGives, ListsStepGives, ListsReadGives, ListsWriteGives, ListsOpenGives}
use Rattle.export.specs.Gives.{PressTableGives, PressPlanGives, PressCheckGives, PressLiveGives, PressNewGives, PressLoadGives, PressStepGives, PressReadGives, PressWriteGives, PressOpenGives}

-- all that meet a contract are equal
abbrev pub One : {A : Type 0} → (A → Type 0) → Type 0
One {A} Meets = (a b : A) → Meets a → Meets b → a ≡ b

pub record Determined : Type 1 where
  -- table::read_table
  pub read_table : (bytes : List ℕ) → One (λ (r : TableRead). TableGives bytes r)
  -- plan::plan
  pub plan : (table out : List ℕ) → One (λ (x : Result ℕ Refusal × List ℕ). PlanGives table out x.0 x.1)
  -- text::put_listing: where the page ends, what is left in the lent schedule and on the page
  pub put_listing : (table schedule out : List ℕ) (at : ℕ) → One (λ (x : ℕ × List ℕ × List ℕ). ListingGives table schedule out at x.0 x.1 x.2)
  -- lives::live_list
  pub live_list : (table : List ℕ) (signal : ℕ) (list : List LiveValue) → One (λ (x : Result ℕ Refusal × List LiveValue). ListGives table signal list x.0 x.1)
  -- lives::lent
  pub lent : (table : List ℕ) (signal room : ℕ) (before : LiveValue) → One (λ (r : Lived). LentGives table signal room before r)
  -- inspect::check_schedule
  pub check_schedule : (table schedule : List ℕ) → One (λ (r : Result ℕ Refusal). CheckGives table schedule r)
  -- machine::Machine::new
  pub new : One (λ (r : Machine). NewGives r)
  -- machine::Machine::load
  pub load : (m : Machine) (table schedule : List ℕ) → One (λ (r : Stepped). Loads m table schedule r)
  -- machine::Machine::step
  pub step : (m : Machine) → One (λ (r : Stepped). StepGives m r)
  -- machine::Machine::read
  pub read : (m : Machine) (task signal : ℕ) → One (λ (r : WordRead). ReadGives m task signal r)
  -- machine::Machine::write
  pub write : (m : Machine) (task signal word : ℕ) → One (λ (r : Stepped). WriteGives m task signal word r)
  -- machine::lists::load
  pub lists_load : (n d s table schedule : List ℕ) → One (λ (x : Result ℕ Refusal × List ℕ × List ℕ × List ℕ). ListsLoadGives n d s table schedule x.0 x.1 x.2 x.3)
  -- machine::lists::step
  pub lists_step : (n d s : List ℕ) → One (λ (x : Result ℕ Refusal × List ℕ × List ℕ). ListsStepGives n d s x.0 x.1 x.2)
  -- machine::lists::read
  pub lists_read : (n s : List ℕ) (task signal : ℕ) → One (λ (r : WordRead). ListsReadGives n s task signal r)
  -- machine::lists::write
  pub lists_write : (n s : List ℕ) (task signal word : ℕ) → One (λ (x : Result ℕ Refusal × List ℕ). ListsWriteGives n s task signal word x.0 x.1)
  -- machine::lists::open_instance
  pub lists_open : (n : List ℕ) (task : ℕ) → One (λ (r : InstanceRead). ListsOpenGives n task r)
  -- answers::number
  pub number : (a : Result ℕ Refusal) → One (λ (n : ℕ). NumberGives a n)
  -- answers::place
  pub place : (a : Result ℕ Refusal) → One (λ (n : ℕ). PlaceGives a n)
  -- records::Cursor::task, reader::next_task, reader::task_at
  pub task : (bytes : List ℕ) (count : ℕ) (place : Cursor) → One (λ (r : Result (Option (Task × Cursor)) Refusal). TaskGives bytes count place r)
  -- records::Cursor::signal, reader::next_signal, reader::signal_at
  pub signal : (bytes : List ℕ) (count : ℕ) (place : Cursor) → One (λ (r : Result (Option (ℕ × Cursor)) Refusal). SignalGives bytes count place r)
  -- records::Cursor::access, reader::next_access, reader::access_at
  pub access : (bytes : List ℕ) (tasks signals count : ℕ) (last : Access) (place : Cursor) → One (λ (r : Result (Option (Access × Cursor)) Refusal). AccessGives bytes tasks signals count last place r)
  -- records::Cursor::end, reader::next_end, reader::end_at
  pub end : (bytes : List ℕ) (place : Cursor) → One (λ (r : Result Cursor Refusal). EndGives bytes place r)
  -- reader::new, reader::moved, reader::placed
  pub reader : (table : Bor (List ℕ)) (place : Cursor) → One (λ (r : Reader). ReaderGives table place r)
  -- sections::grid::read_grid
  pub read_grid : (bytes : List ℕ) → One (λ (g : Grid). GridGives bytes g)
  -- ---- the library for firmware: number, place, and what is lent

  -- export::press_table
  pub press_table : (table : List ℕ) → One (λ (x : ℕ × ℕ). PressTableGives table x.0 x.1)
  -- export::press_plan
  pub press_plan : (table out : List ℕ) → One (λ (x : ℕ × ℕ × List ℕ). PressPlanGives table out x.0 x.1 x.2)
  -- export::press_check
  pub press_check : (table schedule : List ℕ) → One (λ (x : ℕ × ℕ). PressCheckGives table schedule x.0 x.1)
  -- export::press_live
  pub press_live : (table : List ℕ) (signal : ℕ) (list : List LiveValue) → One (λ (x : ℕ × ℕ × List LiveValue). PressLiveGives table signal list x.0 x.1 x.2)
  -- export::press_lists_new
  pub press_new : One (λ (x : List ℕ × List ℕ × List ℕ). PressNewGives x.0 x.1 x.2)
  -- export::press_lists_load
  pub press_load : (n d s table schedule : List ℕ) → One (λ (x : ℕ × ℕ × List ℕ × List ℕ × List ℕ). PressLoadGives n d s table schedule x.0 x.1 x.2 x.3 x.4)
  -- export::press_lists_step
  pub press_step : (n d s : List ℕ) → One (λ (x : ℕ × List ℕ × List ℕ). PressStepGives n d s x.0 x.1 x.2)
  -- export::press_lists_read
  pub press_read : (n s : List ℕ) (task signal : ℕ) → One (λ (x : ℕ × ℕ). PressReadGives n s task signal x.0 x.1)
  -- export::press_lists_write
  pub press_write : (n s : List ℕ) (task signal word : ℕ) → One (λ (x : ℕ × List ℕ). PressWriteGives n s task signal word x.0 x.1)
  -- export::press_lists_open
  pub press_open : (n : List ℕ) (task : ℕ) → One (λ (x : ℕ × ℕ). PressOpenGives n task x.0 x.1)
