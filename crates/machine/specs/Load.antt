-- Document 01, "The machine", loading: what it leaves of a state, from the bytes alone. Assumes nothing.
use Rattle.std.specs.Prelude.{◌≡◌, cond, List, ℕ}
use Rattle.rules.specs.Windows.{hyper}
use Rattle.rules.specs.Numbers.{told}
use Rattle.rules.specs.Reading.{tasks_in, signals_of, grid_in, table_in}
use Rattle.rules.specs.Loading.{load_says, accepts}
use Rattle.machine.specs.declared.Machine.{Machine}
use Rattle.machine.specs.declared.Stepped.{Stepped}
use Rattle.machine.specs.Started.{Given, given, started}

-- what is read of a table's bytes, with the bytes of a schedule
abbrev pub given_by : (table schedule : List ℕ) → Given
given_by table schedule = given (tasks_in table).read (signals_of table).read (grid_in table) (hyper (table_in table)) schedule

-- an accepted loading starts anew, a refused one leaves the state as it was, byte for byte
unfoldable pub load_leaves : Machine → (table schedule : List ℕ) → Machine
load_leaves m table schedule = cond (accepts table schedule) (started (given_by table schedule)) m

-- r is what loading these bytes into m gives
abbrev pub Loads : Machine → (table schedule : List ℕ) → Stepped → Type 0
Loads m table schedule r = (told r.answer ≡ load_says table schedule) × (r.machine ≡ load_leaves m table schedule)
