use Rattle.faults.specs.Faults.{number_of, KeptBelow}
use Rattle.faults.proofs.view.View.keep_task.Given as goal

abbrev pub invariant-loop-instance : goal.invariant-loop-instance
invariant-loop-instance l = KeptBelow l.self (number_of l.self l.task l.instance) l.ticks
