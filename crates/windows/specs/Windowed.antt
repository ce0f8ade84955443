-- What is asked of a task: the test `windowed` of document 01 on its fields. Assumes nothing.
use Rattle.std.specs.Prelude.{◌≡◌, true, ℕ, ◌<◌}
use Rattle.rules.specs.Table.{windowed}
use Rattle.rules.specs.Reading.{task_of}
use Rattle.rules.specs.declared.Task.{Task}
use Rattle.rules.specs.declared.Tasks.{Tasks}

abbrev pub Windowed : Task → Type 0
Windowed task = windowed task.period task.start task.end ≡ true

abbrev pub AllWindowed : Tasks → Type 0
AllWindowed tasks = (k : ℕ) → k < tasks.count → Windowed (task_of tasks k)
