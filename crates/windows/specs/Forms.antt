-- The closed forms that the code computes, and what each is to be, in the words of rules. Assumes nothing.
use Rattle.std.specs.Prelude.{◌≡◌, ◌⊎◌, ℕ, ◌+◌, ◌-◌, ◌*◌, ◌/◌, ◌<◌, ◌≤◌, min, leb, ltb, Option, Some, None}
use Rattle.rules.specs.Words.{when}
use Rattle.rules.specs.Windows.{Table, lcm_all, opens, closes}
use Rattle.rules.specs.Table.{longest}
use Rattle.rules.specs.Reading.{task_of}
use Rattle.rules.specs.declared.Task.{Task}
use Rattle.rules.specs.declared.Tasks.{Tasks}

-- the last instance that closes at or before a tick
unfoldable pub last_closed : Task → ℕ → Option ℕ
last_closed task t = when (ltb t task.end) None (Some ((t - task.end) / task.period))

-- the first closing after a tick, or `limit` where that is not later
unfoldable pub next_closing : Task → ℕ → ℕ → ℕ
next_closing task t limit = min limit (when (leb task.end t) (((t - task.end) / task.period + 1) * task.period + task.end) task.end)

-- the last instance that opens before a tick
unfoldable pub last_opened : Task → ℕ → Option ℕ
last_opened task t = when (leb t task.start) None (Some ((t - 1 - task.start) / task.period))

-- a hyper-period, where it is not above the longest
unfoldable pub hyper_within : ℕ → Option ℕ
hyper_within h = when (ltb longest h) None (Some h)

unfoldable pub hyper_of : Tasks → Option ℕ
hyper_of tasks = hyper_within (lcm_all (λ k. (task_of tasks k).period) tasks.count)

-- ---- what they are, of task k of a table

-- the task that a table has as number k
abbrev pub task_in : Table → ℕ → Task
task_in tab k = record { period = tab.period k; start = tab.start k; end = tab.end k }

module _ (tab : Table) (k t : ℕ) where
  abbrev pub IsLastClosed : Option ℕ → Type 0
  IsLastClosed (Some i) = (closes tab k i ≤ t) × ((j : ℕ) → closes tab k j ≤ t → j ≤ i)
  IsLastClosed None = (j : ℕ) → t < closes tab k j

  abbrev pub IsLastOpened : Option ℕ → Type 0
  IsLastOpened (Some i) = (opens tab k i < t) × ((j : ℕ) → opens tab k j < t → j ≤ i)
  IsLastOpened None = (j : ℕ) → t ≤ opens tab k j

  pub record IsNextClosing (limit r : ℕ) : Type 0 where
    pub within : r ≤ limit
    pub first : (j : ℕ) → t < closes tab k j → r ≤ closes tab k j
    pub one : (r ≡ limit) ⊎ ((j : ℕ) × (closes tab k j ≡ r) × (t < r))
