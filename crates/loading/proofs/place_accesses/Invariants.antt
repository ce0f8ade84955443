use mathlib.Core.Path.{◌≡◌}
use Prim.Native.Nat.{◌≤◌, ◌+◌}
use Rattle.rules.specs.Words.{up_to}
use Rattle.state.specs.Sides.{part_of, right_of}
use Rattle.loading.specs.Laid.{uses_of, place_access}
use Rattle.loading.proofs.place_accesses.Given as goal

abbrev pub invariant-loop-k : goal.invariant-loop-k
invariant-loop-k l = (l.k ≤ l.source.users.now.tasks) × (l.numbers ≡ up_to l.k (λ j. place_access (part_of l.access.side) l.source.users.now.grid.now (right_of l.access.side) l.access.signal (l.first + uses_of l.source.users.now.grid.now l.source.users.now.instances (right_of l.access.side) l.access.signal j) j) l.initial.numbers) × (l.used ≡ l.first + uses_of l.source.users.now.grid.now l.source.users.now.instances (right_of l.access.side) l.access.signal l.k)
