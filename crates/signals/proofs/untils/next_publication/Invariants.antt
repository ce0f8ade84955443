use mathlib.Core.Path.{◌≡◌}
use Rattle.rules.specs.Reading.{writes_in}
use Rattle.signals.specs.Forms.{next_below}
use Rattle.signals.proofs.untils.next_publication.Given as goal

abbrev pub invariant-loop-k : goal.invariant-loop-k
invariant-loop-k l = (l.next ≡ next_below l.windowed.tasks (writes_in l.grid l.signal) l.hyper l.tick l.k)
