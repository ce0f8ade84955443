use mathlib.Core.Path.{◌≡◌}
use Prim.Native.Nat.{◌≤◌}
use Rattle.rules.specs.Table.{most_signals}
use Rattle.rules.specs.Words.{up_to}
use Rattle.state.specs.Rows.{fill_one}
use Rattle.state.proofs.fill_row.Given as goal

abbrev pub invariant-loop-s : goal.invariant-loop-s
invariant-loop-s l = (l.s ≤ most_signals) × (l.store ≡ up_to l.s (fill_one l.numbers l.words l.instance.task l.instance.number) l.initial.store)
