-- What the live list answers and leaves in the lent list. Assumes nothing.
use Rattle.std.specs.Prelude.{ℕ, List, map, ◌++◌, eqb, length, drop}
use Rattle.rules.specs.Words.{when}
use Rattle.rules.specs.Windows.{Table}
use Rattle.rules.specs.Plan.{Line, lines}
use Rattle.rules.specs.Numbers.{Told, all_done}
use Rattle.rules.specs.Answers.{live_says}
use Rattle.rules.specs.Reading.{table_in, read_says}
use Rattle.lives.specs.declared.LiveValue.{LiveValue}

-- a line of the live list as a record
abbrev pub value_of : Line → LiveValue
value_of l = record { task = l.task; instance = l.instance; from = l.from; until = l.until; element = l.element }

-- the live list of signal s as records
unfoldable pub live_values : Table → ℕ → List LiveValue
live_values tab s = map value_of (lines tab s)

-- 1 to 11, then 23, 12 and 14, where so many records are lent
unfoldable pub live_told : List ℕ → ℕ → ℕ → Told
live_told table s lent = when (eqb (read_says table).number all_done) (live_says (table_in table) s lent) (read_says table)

-- The live list stands at the front; records beyond stay, and a refusal changes nothing. So many records are lent, and the list may go on after them.
unfoldable pub live_front : List ℕ → ℕ → ℕ → List LiveValue → List LiveValue
live_front table s lent list =
    when (eqb (live_told table s lent).number all_done) (live_values (table_in table) s ++ drop (length (live_values (table_in table) s)) list) list

-- the whole list is lent
abbrev pub live_out : List ℕ → ℕ → List LiveValue → List LiveValue
live_out table s list = live_front table s (length list) list
