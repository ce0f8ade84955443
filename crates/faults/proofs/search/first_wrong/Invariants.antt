use mathlib.Core.Path.{◌≡◌}
use mathlib.Core.Bool.{Bool}
use Rattle.std.specs.Prelude.{None}
use Rattle.rules.specs.Bytes.{Part}
use Rattle.faults.specs.Faults.{view_table, Judges, view_side, first_in}
use Rattle.faults.proofs.search.first_wrong.Given as goal

abbrev pub invariant-loop-task : goal.invariant-loop-task
invariant-loop-task g l = (wrong : Part → Bool) → Judges l.view l.side (goal.F-post g l.is_wrong) wrong
    → None ≡ first_in (view_table l.view) wrong (view_side l.view l.side l.task)
