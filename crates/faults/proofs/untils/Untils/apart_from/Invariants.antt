use mathlib.Core.Path.{◌≡◌}
use mathlib.Core.Bool.{true, not}
use Prim.Native.Nat.{ℕ, ◌<◌}
use Rattle.faults.specs.Faults.{held_at, clashing}
use Rattle.faults.proofs.untils.Untils.apart_from.Given as goal

abbrev pub invariant-loop-instance : goal.invariant-loop-instance
invariant-loop-instance l = (i : ℕ) → i < l.instance → not (clashing (held_at l.writer l.self.ticks.now l.self.view.schedule.now i) l.held) ≡ true
