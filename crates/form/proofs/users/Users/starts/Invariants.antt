use mathlib.Core.Path.{◌≡◌}
use Prim.Native.Nat.{◌+◌, ◌*◌}
use lib.ListN.{length}
use Rattle.rules.specs.Table.{most_tasks}
use Rattle.form.specs.Records.{users_below, Starts}
use Rattle.form.proofs.users.Users.starts.Given as goal

abbrev pub invariant-loop-k : goal.invariant-loop-k
invariant-loop-k g l = (length l.starts ≡ most_tasks) × Starts l.self.grid.now l.self.instances g.row.STEP l.side l.signal l.initial.next l.k l.starts × (l.next ≡ l.initial.next + g.row.STEP * users_below l.self.grid.now l.self.instances l.side l.signal l.k)
