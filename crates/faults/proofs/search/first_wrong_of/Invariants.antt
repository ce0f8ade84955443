use mathlib.Core.Path.{◌≡◌}
use mathlib.Core.Bool.{Bool}
use Rattle.std.specs.Prelude.{None}
use Rattle.rules.specs.Bytes.{Part}
use Rattle.form.specs.Records.{instance_parts}
use Rattle.faults.specs.Faults.{view_table, Judges, first_in}
use Rattle.faults.proofs.search.first_wrong_of.Given as goal

abbrev pub invariant-loop-instance : goal.invariant-loop-instance
invariant-loop-instance g l = (wrong : Part → Bool) → Judges l.view l.side (goal.F-post g l.is_wrong) wrong
    → None ≡ first_in (view_table l.view) wrong (instance_parts l.side l.view.signal l.task l.instance)
