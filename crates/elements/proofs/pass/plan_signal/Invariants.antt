use Rattle.elements.specs.Steps.{choice_of}
use Rattle.elements.proofs.Signal.{After}
use Rattle.elements.proofs.pass.plan_signal.Given as goal

abbrev pub invariant-loop-event : goal.invariant-loop-event
invariant-loop-event l = After l.accepted l.signal l.initial.uses l.event-index (choice_of l.elements l.uses)
