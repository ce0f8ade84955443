-- What the code computes of a table whose records were read. Assumes nothing.
use Rattle.std.specs.Prelude.{Bool, not, ◌||◌, [], ℕ, ◌+◌, ◌*◌, ◌/◌, ◌%◌, eqb, Option, Some, None}
use Rattle.rules.specs.Words.{total, every, lowest, maybe, bit}
use Rattle.rules.specs.Euclid.{gcd_of}
use Rattle.rules.specs.Windows.{Table}
use Rattle.rules.specs.Reading.{Grid, task_of, table_of, writes_in, reads_in}
use Rattle.rules.specs.declared.Task.{Task}
use Rattle.rules.specs.declared.Tasks.{Tasks}

-- the table of these tasks, so many signals and this grid: rules 7 to 11 do not look at the defaults
abbrev pub timed : Tasks → ℕ → Grid → Table
timed tasks signals grid = table_of tasks (record { defaults = []; count = signals }) grid

-- ---- sums over h ticks, of the tasks or signals below n

abbrev pub instances_in : Tasks → ℕ → ℕ → ℕ
instances_in tasks h n = total (λ k. h / (task_of tasks k).period) n

abbrev pub accesses_in : Grid → ℕ → ℕ → ℕ
accesses_in grid k n = total (λ s. bit (reads_in grid s k) + bit (writes_in grid s k)) n

abbrev pub uses_in : Tasks → ℕ → Grid → ℕ → ℕ → ℕ
uses_in tasks signals grid h n = total (λ k. accesses_in grid k signals * (h / (task_of tasks k).period)) n

-- ---- rule 11

-- two tasks close at one tick
unfoldable pub meets : Task → Task → Bool
meets a b = eqb (a.end % gcd_of a.period b.period) (b.end % gcd_of a.period b.period)

-- task l meets no writer below it
unfoldable pub apart_below : Tasks → (ℕ → Bool) → ℕ → Bool
apart_below tasks writes l = every l (λ k. not (writes k) || not (meets (task_of tasks k) (task_of tasks l)))

-- no two writers meet
unfoldable pub publish_apart : Tasks → (ℕ → Bool) → Bool
publish_apart tasks writes = every tasks.count (λ l. not (writes l) || apart_below tasks writes l)

-- the lowest signal of which two writers meet
unfoldable pub first_clash : Tasks → ℕ → Grid → Option ℕ
first_clash tasks signals grid = maybe (lowest (λ s. not (publish_apart tasks (writes_in grid s))) signals) None (λ s. Some s)
