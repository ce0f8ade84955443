-- What the ordering of a table's openings and closings starts from and gives. Assumes nothing.
use Rattle.std.specs.Prelude.{ℕ, ◌+◌, ◌*◌, ◌-◌, ◌≤◌, ◌<◌, cond, List, ◌++◌, ◌≡◌, length, get_or, replicate}
use Rattle.rules.specs.Windows.{Table}
use Rattle.rules.specs.Table.{most_tasks, most_instances, longest}
use Rattle.rules.specs.Reading.{table_of, task_of, no_signals, no_grid}
use Rattle.rules.specs.declared.Task.{Task}
use Rattle.rules.specs.declared.Tasks.{Tasks}
use Rattle.theory.specs.Sweep.{opening_number, is_opening, events}
use Rattle.events.specs.declared.Events.{Events}

-- the table of these tasks alone: its openings and closings are those of every table with them
abbrev pub tasks_table : Tasks → Table
tasks_table tasks = table_of tasks no_signals no_grid

-- the first n numbers are the tasks' first openings
abbrev pub FirstOpenings : Tasks → ℕ → List ℕ → Type 0
FirstOpenings tasks n next = (k : ℕ) → k < n → get_or next k 0 ≡ opening_number (task_of tasks k).start k

pub record WindowFits (t : Task) : Type 0 where
  pub window : t.start < t.end
  pub within : t.end ≤ t.period
  pub short : t.period ≤ longest

-- the task's next number after this one
unfoldable pub following_of : Task → ℕ → ℕ
following_of t n = cond (is_opening n) (n + (t.end - t.start) * (2 * most_tasks) - most_tasks) (n + (t.period - t.end + t.start) * (2 * most_tasks) + most_tasks)

-- of the first n numbers none is below the one at k
pub record Leads (next : List ℕ) (n k : ℕ) : Type 0 where
  pub one : k < n
  pub low : (j : ℕ) → j < n → get_or next k 0 ≤ get_or next j 0

abbrev pub most_events : ℕ
most_events = 2 * most_instances

-- the openings and closings of a table, and 0 in the places that are not in use
abbrev pub ordered : Table → Events
ordered tab = record { list = events tab ++ replicate (most_events - length (events tab)) 0; count = length (events tab) }
