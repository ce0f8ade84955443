use mathlib.Core.Path.{◌≡◌}
use Rattle.rules.specs.Reading.{writes_in}
use Rattle.signals.specs.Forms.{binding_below}
use Rattle.signals.proofs.bindings.binding_at.Given as goal

abbrev pub invariant-loop-k : goal.invariant-loop-k
invariant-loop-k l = (l.found ≡ binding_below l.windowed.tasks (writes_in l.grid l.signal) l.tick l.k)
