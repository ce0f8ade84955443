use Rattle.std.proofs.Common.{◌≡◌, ◌*◌, ◌≤◌}
use Rattle.table.specs.Forms.{accesses_in}
use Rattle.table.proofs.sums.accesses.Given as goal

abbrev pub invariant-loop-s : goal.invariant-loop-s
invariant-loop-s l = (l.sum ≡ accesses_in l.grid l.task l.s) × (l.sum ≤ 2 * l.s)
