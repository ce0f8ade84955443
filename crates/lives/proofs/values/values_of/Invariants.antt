-- The arrays hold the values that the first n events open, and the carried one.
use Rattle.lives.specs.Values.{lives_below, Held}
use Rattle.lives.proofs.values.values_of.Given as goal

abbrev pub invariant-loop-event : goal.invariant-loop-event
invariant-loop-event l = Held (lives_below l.accepted l.signal l.turns l.event-index) l.held l.values l.count
