use Rattle.std.proofs.Common.{◌≡◌, ◌*◌, ◌≤◌}
use Rattle.rules.specs.Table.{longest}
use Rattle.table.specs.Forms.{instances_in}
use Rattle.table.proofs.sums.all_instances.Given as goal

abbrev pub invariant-loop-task : goal.invariant-loop-task
invariant-loop-task l = (l.sum ≡ instances_in l.fn.windowed.tasks l.hyper l.task-index) × (l.sum ≤ longest * l.task-index)
