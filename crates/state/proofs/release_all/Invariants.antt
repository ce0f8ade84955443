use mathlib.Core.Path.{◌≡◌}
use Prim.Native.Nat.{◌≤◌}
use Rattle.rules.specs.Table.{most_signals}
use Rattle.rules.specs.Words.{up_to}
use Rattle.state.specs.Rows.{release_one}
use Rattle.state.proofs.release_all.Given as goal

abbrev pub invariant-loop-s : goal.invariant-loop-s
invariant-loop-s l = (l.s ≤ most_signals) × (l.numbers ≡ up_to l.s release_one l.initial.numbers)
