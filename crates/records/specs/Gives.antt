-- The contracts of a place's methods, and of the reader's functions that ask it: what stands at this place of the table's bytes. Assumes nothing.
use Rattle.std.specs.Prelude.{ℕ, ◌≡◌, List, Option, Result}
use Rattle.rules.specs.Records.{task_at, signal_at, access_at, end_at}
use Rattle.rules.specs.declared.Task.{Task}
use Rattle.rules.specs.declared.Access.{Access}
use Rattle.rules.specs.declared.Refusal.{Refusal}
use Rattle.records.specs.declared.Cursor.{Cursor}
use Rattle.records.specs.Said.{step_said, end_said}

-- r is what is given where a task is asked for, after so many tasks
abbrev pub TaskGives : (bytes : List ℕ) (count : ℕ) → Cursor → Result (Option (Task × Cursor)) Refusal → Type 0
TaskGives bytes count place r = step_said r ≡ task_at bytes count place.at

-- a signal, after so many signals
abbrev pub SignalGives : (bytes : List ℕ) (count : ℕ) → Cursor → Result (Option (ℕ × Cursor)) Refusal → Type 0
SignalGives bytes count place r = step_said r ≡ signal_at bytes count place.at

-- an access to one of so many tasks and signals, after so many accesses that `last` is the last of
abbrev pub AccessGives : (bytes : List ℕ) (tasks signals count : ℕ) (last : Access) → Cursor → Result (Option (Access × Cursor)) Refusal → Type 0
AccessGives bytes tasks signals count last place r = step_said r ≡ access_at bytes tasks signals count last place.at

-- the end
abbrev pub EndGives : List ℕ → Cursor → Result Cursor Refusal → Type 0
EndGives bytes place r = end_said r ≡ end_at bytes place.at
