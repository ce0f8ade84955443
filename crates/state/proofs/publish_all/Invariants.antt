use mathlib.Core.Path.{◌≡◌}
use Prim.Native.Nat.{◌≤◌}
use Rattle.rules.specs.Table.{most_tasks}
use Rattle.rules.specs.Words.{up_to}
use Rattle.state.specs.Rows.{closing_of, publish_one, at_instance}
use Rattle.state.proofs.publish_all.Given as goal

abbrev pub invariant-loop-t : goal.invariant-loop-t
invariant-loop-t l = (l.t ≤ most_tasks) × (l.numbers ≡ up_to l.t (λ k n. at_instance (publish_one k) (closing_of n k) n) l.initial.numbers)
