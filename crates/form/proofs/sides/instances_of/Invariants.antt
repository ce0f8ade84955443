use mathlib.Core.Path.{◌≡◌}
use Prim.Native.Nat.{ℕ, ◌/◌, ◌<◌}
use lib.ListN.{get_or, length}
use Rattle.rules.specs.Reading.{task_of}
use Rattle.rules.specs.Table.{most_tasks}
use Rattle.form.proofs.sides.instances_of.Given as goal

abbrev pub invariant-loop-k : goal.invariant-loop-k
invariant-loop-k l = (length l.instances ≡ most_tasks) × ((j : ℕ) → j < l.k → get_or l.instances j 0 ≡ l.hyper / (task_of l.windowed.tasks j).period)
