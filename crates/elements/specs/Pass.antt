-- One opening or closing by the task's own numbers, and the table that the pass looks at. Assumes nothing.
use Rattle.std.specs.Prelude.{ℕ, suc, ◌+◌, ◌*◌, ◌/◌, ◌≤◌, ◌<◌, true, cond, List, ◌≡◌, get_or, Option, Some, None, is_some}
use Rattle.rules.specs.Windows.{Table}
use Rattle.rules.specs.Table.{most_signals, most_uses, longest}
use Rattle.rules.specs.Bytes.{writers_below, readers_below}
use Rattle.rules.specs.Reading.{Grid, table_of, no_signals}
use Rattle.rules.specs.declared.Task.{Task}
use Rattle.rules.specs.declared.Tasks.{Tasks}
use Rattle.theory.specs.Sweep.{task_in, tick_in, is_opening, events}
use Rattle.theory.specs.Chosen.{Choice, first_use, sent, taken, followed}
use Rattle.events.specs.Order.{tasks_table}
use Rattle.accept.specs.declared.Accepted.{Accepted}
use Rattle.elements.specs.declared.pass.FirstUses.{FirstUses}
use Rattle.elements.specs.declared.pass.Numbers.{Numbers}
use Rattle.elements.specs.Steps.{free_in}

-- a reader gets what stands
abbrev pub read_from : Task → Option ℕ → ℕ → Choice → Choice
read_from task (Some first) t c = sent c (first + t / task.period) (t / task.period * task.period + task.end)
read_from task None t c = c

abbrev pub reads_by : Task → FirstUses → ℕ → Choice → Choice
reads_by task first t c = read_from task first.read t c

-- a writer takes the lowest free element
abbrev pub written_from : Task → Option ℕ → ℕ → ℕ → Choice → Choice
written_from task (Some first) k t c = taken c (first + t / task.period) k (free_in c.held t)
written_from task None k t c = c

abbrev pub writes_by : Task → FirstUses → ℕ → ℕ → Choice → Choice
writes_by task first k t c = written_from task first.write k t c

-- an opening or a closing
unfoldable pub turn_of : Task → FirstUses → ℕ → Choice → Choice
turn_of task first n c = cond (is_opening n) (writes_by task first (task_in n) (tick_in n) (reads_by task first (tick_in n) c)) (cond (is_some first.write) (followed c (task_in n) (tick_in n)) c)

-- the uses of an opening have places
pub record Opens (task : Task) (first : FirstUses) (t : ℕ) : Type 0 where
  pub tick : t ≤ longest
  pub period : 0 < task.period
  pub end : task.end ≤ longest
  pub reader : (n : ℕ) → first.read ≡ Some n → n + t / task.period < most_uses
  pub writer : (n : ℕ) → first.write ≡ Some n → n + t / task.period < most_uses

abbrev pub Turns : Task → FirstUses → ℕ → Type 0
Turns task first n = is_opening n ≡ true → Opens task first (tick_in n)

-- the tasks and the grid as a table: the pass does not look at the number of signals
abbrev pub pass_table : Tasks → Grid → Table
pass_table tasks grid = table_of tasks no_signals grid

-- the events are those of the tasks, and the numbers of the uses are known and have places
pub record Ready (a : Accepted) (s : ℕ) (list : List ℕ) (numbers : Numbers) : Type 0 where
  pub signal : s < most_signals
  pub events : list ≡ events (tasks_table a.tasks)
  pub writers : (k : ℕ) → k < a.tasks.count → get_or numbers.writers k 0 ≡ first_use (pass_table a.tasks a.grid) s + writers_below (pass_table a.tasks a.grid) s k
  pub readers : (k : ℕ) → k < a.tasks.count
      → get_or numbers.readers k 0 ≡ first_use (pass_table a.tasks a.grid) s + writers_below (pass_table a.tasks a.grid) s a.tasks.count + readers_below (pass_table a.tasks a.grid) s k
  pub room : first_use (pass_table a.tasks a.grid) (suc s) ≤ most_uses
