use mathlib.Core.Path.{◌≡◌}
use Prim.Native.Nat.{◌≤◌}
use Rattle.rules.specs.Table.{most_signals}
use Rattle.rules.specs.Words.{up_to}
use Rattle.state.specs.Rows.{publish_one}
use Rattle.state.proofs.publish_row.Given as goal

abbrev pub invariant-loop-s : goal.invariant-loop-s
invariant-loop-s l = (l.s ≤ most_signals) × (l.numbers ≡ up_to l.s (publish_one l.instance.task l.instance.number) l.initial.numbers)
