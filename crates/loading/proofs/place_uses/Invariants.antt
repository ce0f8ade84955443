use mathlib.Core.Path.{◌≡◌}
use Prim.Native.Nat.{◌≤◌, ◌+◌}
use lib.ListN.{set}
use Rattle.rules.specs.Words.{up_to}
use Rattle.state.specs.Parts.{uses}
use Rattle.loading.specs.Laid.{element_in}
use Rattle.loading.proofs.place_uses.Given as goal

abbrev pub invariant-loop-j : goal.invariant-loop-j
invariant-loop-j l = (l.j ≤ l.n) × (l.numbers ≡ up_to l.j (λ i m. set m (uses + (l.before.used + i)) (l.before.base + element_in l.schedule l.signal (l.before.used + i))) l.initial.numbers)
