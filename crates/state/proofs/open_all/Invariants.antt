use mathlib.Core.Path.{◌≡◌}
use Prim.Native.Nat.{◌≤◌}
use Rattle.rules.specs.Table.{most_tasks}
use Rattle.rules.specs.Words.{up_to}
use Rattle.state.specs.Rows.{opening_of, fill_one, at_instance}
use Rattle.state.proofs.open_all.Given as goal

abbrev pub invariant-loop-t : goal.invariant-loop-t
invariant-loop-t l = (l.t ≤ most_tasks) × (l.store ≡ up_to l.t (λ k. at_instance (fill_one l.numbers l.defaults k) (opening_of l.numbers k)) l.initial.store)
