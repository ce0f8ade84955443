use Rattle.sweep.specs.Pass.{AreActs, Inspects}
use Rattle.sweep.proofs.Inspected.{Left}
use Rattle.sweep.proofs.signal_passes.Given as goal

abbrev pub invariant-loop-event : goal.invariant-loop-event
invariant-loop-event l = (I : Inspects l.accepted l.signal l.events l.places l.schedule) × AreActs l.accepted.grid l.signal l.accepted.tasks.count l.acts × Left l.accepted l.signal l.events l.places l.schedule I l.event-index l.swept
