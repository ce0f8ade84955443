-- The closed forms that the code computes of one signal, for the tasks that `writes` and `reads` choose. Assumes nothing.
use Rattle.std.specs.Prelude.{Option, Some, None, Bool, ℕ, ◌+◌, ◌*◌, max, ltb}
use Rattle.rules.specs.Words.{when}
use Rattle.rules.specs.Windows.{Table}
use Rattle.rules.specs.Values.{Value, carried, closing}
use Rattle.rules.specs.Plan as plan
use Rattle.rules.specs.Reading.{task_of}
use Rattle.rules.specs.declared.Task.{Task}
use Rattle.rules.specs.declared.Tasks.{Tasks}
use Rattle.windows.specs.Forms.{last_closed, next_closing, last_opened}
use Rattle.signals.specs.declared.Publication.{Publication}
use Rattle.signals.specs.Pass.{pass}

-- a value as the code gives it: when it is published, and the task and instance that document 01 gives it
abbrev pub publication_of : Table → Value → Publication
publication_of tab v = record { tick = closing tab v; task = plan.task_of v; instance = plan.instance_of v }

-- the carried value, of whatever signal
abbrev pub nothing_yet : Publication
nothing_yet = record { tick = 0; task = plan.task_of (carried 0); instance = plan.instance_of (carried 0) }

-- the later of what was found so far and the closing of instance i of task number k
abbrev pub later_if : Task → ℕ → Publication → Option ℕ → Publication
later_if task k found (Some i) = when (ltb found.tick (i * task.period + task.end)) (record { tick = i * task.period + task.end; task = k; instance = i }) found
later_if task k found None = found

unfoldable pub later_of : Task → ℕ → ℕ → Publication → Publication
later_of task k t found = later_if task k found (last_closed task t)

-- the latest publication at or before a tick, of the tasks below n
abbrev pub binding_below : Tasks → (ℕ → Bool) → ℕ → ℕ → Publication
binding_below tasks writes t n = pass writes (λ k found. later_of (task_of tasks k) k t found) nothing_yet n

unfoldable pub binding_of : Tasks → (ℕ → Bool) → ℕ → Publication
binding_of tasks writes t = binding_below tasks writes t tasks.count

-- the first publication after a tick, or the hyper-period
abbrev pub next_below : Tasks → (ℕ → Bool) → ℕ → ℕ → ℕ → ℕ
next_below tasks writes h t n = pass writes (λ k next. next_closing (task_of tasks k) t next) h n

unfoldable pub next_of : Tasks → (ℕ → Bool) → ℕ → ℕ → ℕ
next_of tasks writes h t = next_below tasks writes h t tasks.count

-- the later of what was reached so far and the closing of instance i, where that opens at or after a tick
abbrev pub reach_if : Task → ℕ → ℕ → Option ℕ → ℕ
reach_if task from reached (Some i) = when (ltb (i * task.period + task.start) from) reached (max reached (i * task.period + task.end))
reach_if task from reached None = reached

unfoldable pub reach_of : Task → ℕ → ℕ → ℕ → ℕ
reach_of task from before reached = reach_if task from reached (last_opened task before)

-- the last closing of a reader that opens at or after one tick and before another, and at least the second
abbrev pub reach_below : Tasks → (ℕ → Bool) → ℕ → ℕ → ℕ → ℕ
reach_below tasks reads from before n = pass reads (λ k reached. reach_of (task_of tasks k) from before reached) before n

-- until when the value published at tick c is live
unfoldable pub until_of : Tasks → (ℕ → Bool) → (ℕ → Bool) → ℕ → ℕ → ℕ
until_of tasks writes reads h c = reach_below tasks reads c (next_of tasks writes h c) tasks.count
