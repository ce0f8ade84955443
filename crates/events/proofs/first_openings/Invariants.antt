use Rattle.std.proofs.Common.{◌≡◌, length}
use Rattle.rules.specs.Table.{most_tasks}
use Rattle.events.specs.Order.{FirstOpenings}
use Rattle.events.proofs.first_openings.Given as goal

abbrev pub invariant-loop-k : goal.invariant-loop-k
invariant-loop-k l = (length l.next ≡ most_tasks) × FirstOpenings l.tasks l.k l.next
