-- What planning answers and leaves in the lent buffer. Assumes nothing.
use Rattle.std.specs.Prelude.{ℕ, List, ◌++◌, eqb, length, drop}
use Rattle.rules.specs.Words.{when}
use Rattle.rules.specs.Windows.{Table}
use Rattle.rules.specs.Plan.{plan}
use Rattle.rules.specs.Bytes.{bytes_of, schedule_length}
use Rattle.rules.specs.Numbers.{Told, all_done}
use Rattle.rules.specs.Answers.{plan_says}
use Rattle.rules.specs.Reading.{table_in, read_says}

-- 1 to 11, then 12 to 14
unfoldable pub plan_told : List ℕ → ℕ → Told
plan_told table lent = when (eqb (read_says table).number all_done) (plan_says (table_in table) lent) (read_says table)

-- an accepted table's schedule stands at the front; bytes after it stay, and a refusal changes nothing
unfoldable pub planned_into : Table → List ℕ → List ℕ
planned_into tab out = when (eqb (plan_says tab (length out)).number all_done) (bytes_of tab (plan tab) ++ drop (schedule_length tab) out) out

unfoldable pub plan_out : List ℕ → List ℕ → List ℕ
plan_out table out = when (eqb (read_says table).number all_done) (planned_into (table_in table) out) out
