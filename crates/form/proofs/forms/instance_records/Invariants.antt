use Rattle.std.specs.Prelude.{Ok}
use mathlib.Core.Path.{◌≡◌}
use Rattle.rules.specs.declared.Side.{Side}
use Rattle.form.specs.Records.{mark_of, instance_parts}
use Rattle.form.specs.Form.{walked, step}
use Rattle.form.proofs.forms.instance_records.Given as goal

abbrev pub invariant-loop-i : goal.invariant-loop-i
invariant-loop-i l = (side : Side) → l.mark ≡ mark_of side → Ok l.place ≡ walked (step l.bytes) (instance_parts side l.signal l.task l.i) (Ok l.fn.from)
