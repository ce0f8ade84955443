-- Loading starts document 01's machine, whatever it is loaded into. Assumes nothing.
use Rattle.std.specs.Prelude.{ℕ, ◌≡◌, true, List, [], map}
use Rattle.rules.specs.Windows.{hyper}
use Rattle.rules.specs.Table.{Fits}
use Rattle.rules.specs.Bytes.{schedule_in}
use Rattle.rules.specs.Answers.{check_says}
use Rattle.rules.specs.Reading.{table_in}
use Rattle.rules.specs.Loading.{accepts}
use Rattle.rules.specs.Meaning.{Call, meaning}
use Rattle.rules.specs.Machine.{separate, loaded}
use Rattle.machine.specs.declared.Machine.{Machine}
use Rattle.machine.specs.declared.Stepped.{Stepped}
use Rattle.machine.specs.Started.{Given, tab, made, started}
use Rattle.machine.specs.Load.{load_leaves, Loads}
use Rattle.simulation.specs.Simulates.{Runs, outcome_said, calls_said}

-- A loading that the check accepts starts document 01's machine: the state stands where that one stands after loading.
abbrev pub StartsRight : Given → Type 0
StartsRight g =
    let L = separate (tab g) (made g) in
    Fits (tab g) → g.hyper ≡ hyper (tab g) → (check_says (tab g) g.schedule).number ≡ 0 → Runs (tab g) L (loaded (tab g) L) (started g)

-- So from such a loading on, any calls say what they must by the table and the calls alone.
abbrev pub AsMeant : Given → Type 0
AsMeant g =
    Fits (tab g) → g.hyper ≡ hyper (tab g) → (check_says (tab g) g.schedule).number ≡ 0 → (cs : List Call) → calls_said (started g) cs ≡ map outcome_said (meaning (tab g) [] cs)

-- The same from bytes.
abbrev pub LoadsRight : Machine → (table schedule : List ℕ) → Type 0
LoadsRight m table schedule =
    let T = table_in table in
    let L = separate T (schedule_in T schedule) in
    accepts table schedule ≡ true → Runs T L (loaded T L) (load_leaves m table schedule)

-- The contract of loading determines the result.
abbrev pub LoadsExact : Machine → (table schedule : List ℕ) → Type 0
LoadsExact m table schedule = (a b : Stepped) → Loads m table schedule a → Loads m table schedule b → a ≡ b
