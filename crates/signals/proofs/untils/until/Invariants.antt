use mathlib.Core.Path.{◌≡◌}
use Prim.Native.Nat.{◌≤◌}
use Rattle.rules.specs.Table.{longest}
use Rattle.rules.specs.Reading.{reads_in}
use Rattle.signals.specs.Forms.{reach_below}
use Rattle.signals.proofs.untils.until.Given as goal

abbrev pub invariant-loop-k : goal.invariant-loop-k
invariant-loop-k l = (l.reached ≡ reach_below l.windowed.tasks (reads_in l.grid l.signal) l.published l.next l.k) × (l.next ≤ longest)
