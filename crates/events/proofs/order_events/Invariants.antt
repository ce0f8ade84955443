use Prim.Native.Nat.{◌-◌}
use mathlib.Core.Path.{◌≡◌}
use Rattle.rules.specs.Table.{Fits}
use Rattle.events.specs.Order.{tasks_table, most_events}
use Rattle.events.proofs.Merged.{limit, Merged}
use Rattle.events.proofs.order_events.Given as goal

abbrev pub invariant-loop-tasks : goal.invariant-loop-tasks
invariant-loop-tasks l = (F : Fits (tasks_table l.tasks)) × (l.end ≡ limit l.tasks F) × Merged l.tasks F l.list l.count l.next

abbrev pub decreases-loop-tasks : goal.decreases-loop-tasks
decreases-loop-tasks l = most_events - l.count
