use Rattle.faults.specs.Faults.{KeptTo}
use Rattle.faults.proofs.view.View.keep_all.Given as goal

abbrev pub invariant-loop-task : goal.invariant-loop-task
invariant-loop-task l = KeptTo l.self l.task l.ticks
