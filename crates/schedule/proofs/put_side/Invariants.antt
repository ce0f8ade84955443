use mathlib.Core.Path.{◌≡◌}
use mathlib.Core.List.{List}
use Prim.Native.Nat.{ℕ, ◌+◌}
use lib.ListN.{length}
use Rattle.form.specs.Records.{users_below, side_parts}
use Rattle.form.specs.Form.{walked}
use Rattle.schedule.specs.Writing.{put}
use Rattle.schedule.proofs.put_side.Given as goal

abbrev pub invariant-loop-k : goal.invariant-loop-k
invariant-loop-k l = (l.used ≡ l.first + users_below l.users.grid.now l.users.instances l.side l.signal l.k) × (length l.out ≡ length l.initial.out)
    × ((counts : List ℕ) → record { out = l.out; used = l.used } ≡ walked (put counts l.uses) (side_parts l.users.grid.now l.users.instances l.k l.side l.signal) (record { out = l.initial.out; used = l.first }))
