use Rattle.std.proofs.Common.{◌≡◌, ◌*◌, ◌≤◌}
use Rattle.rules.specs.Table.{longest, most_signals}
use Rattle.table.specs.Forms.{uses_in}
use Rattle.table.proofs.sums.all_uses.Given as goal

abbrev pub invariant-loop-k : goal.invariant-loop-k
invariant-loop-k l = (l.sum ≡ uses_in l.windowed.tasks l.signals l.grid l.hyper l.k) × (l.sum ≤ 2 * most_signals * longest * l.k)
