use Rattle.std.proofs.Common.{◌≡◌, ◌≤◌}
use Rattle.rules.specs.Table.{longest}
use Rattle.windows.proofs.Periods.{lcm_first}
use Rattle.windows.proofs.hyper_period.Given as goal

abbrev pub invariant-loop-task : goal.invariant-loop-task
invariant-loop-task l = (l.hyper ≡ lcm_first l.fn.windowed.tasks l.task-index) × (l.hyper ≤ longest)
