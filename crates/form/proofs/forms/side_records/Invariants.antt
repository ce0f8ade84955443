use Rattle.std.specs.Prelude.{Ok}
use mathlib.Core.Path.{◌≡◌}
use Rattle.form.specs.Records.{side_parts}
use Rattle.form.specs.Form.{walked, step}
use Rattle.form.proofs.forms.side_records.Given as goal

abbrev pub invariant-loop-k : goal.invariant-loop-k
invariant-loop-k l = Ok l.place ≡ walked (step l.bytes) (side_parts l.users.grid.now l.users.instances l.k l.side l.signal) (Ok l.fn.from)
