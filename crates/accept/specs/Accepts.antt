-- What comes of reading a table that has to be accepted. Assumes nothing.
use Rattle.std.specs.Prelude.{◌≡◌, ℕ, List, Result, Err, MatchResult}
use Rattle.rules.specs.Windows.{Table}
use Rattle.rules.specs.Numbers.{told, all_done}
use Rattle.rules.specs.Reading.{table_of, tasks_in, signals_of, grid_in, table_in, read_says}
use Rattle.rules.specs.declared.Refusal.{Refusal}
use Rattle.accept.specs.declared.Accepted.{Accepted}

-- the table that stands in it
abbrev pub its_table : Accepted → Table
its_table a = table_of a.tasks a.signals a.grid

-- the bytes are accepted, and a is the table that they are, part by part
abbrev pub IsAccepted : List ℕ → Accepted → Type 0
IsAccepted bytes a =
    ((read_says bytes).number ≡ all_done) × (its_table a ≡ table_in bytes) × (a.tasks ≡ (tasks_in bytes).read) × (a.signals ≡ (signals_of bytes).read) × (a.grid ≡ grid_in bytes)

-- the table of these bytes, or the first rule that it breaks
abbrev pub Accepts : List ℕ → Result Accepted Refusal → Type 0
Accepts bytes r = MatchResult r (IsAccepted bytes) (λ e. told (Err e) ≡ read_says bytes)
