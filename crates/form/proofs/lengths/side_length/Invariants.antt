use mathlib.Core.Path.{◌≡◌}
use Prim.Native.Nat.{◌*◌, ◌≤◌}
use Rattle.rules.specs.Table.{longest}
use Rattle.form.specs.Records.{users_below}
use Rattle.form.proofs.lengths.side_length.Given as goal

abbrev pub invariant-loop-k : goal.invariant-loop-k
invariant-loop-k l = (l.records ≡ users_below l.users.grid.now l.users.instances l.side l.signal l.k) × (l.records ≤ l.k * longest)
