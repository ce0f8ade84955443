use mathlib.Core.Path.{◌≡◌}
use Prim.Native.Nat.{◌≤◌}
use lib.ListN.{get_or}
use Rattle.rules.specs.Words.{up_to}
use Rattle.rules.specs.Reading.{task_of}
use Rattle.loading.specs.Laid.{set_window}
use Rattle.loading.proofs.load_windows.Given as goal

abbrev pub invariant-loop-k : goal.invariant-loop-k
invariant-loop-k l = (l.k ≤ l.source.tasks.now.count) × (l.numbers ≡ up_to l.k (λ j. set_window (task_of l.source.tasks.now j) (get_or l.source.users.now.instances j 0) j) l.initial.numbers)
