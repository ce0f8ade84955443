use Rattle.std.specs.Prelude.{Ok}
use mathlib.Core.Path.{◌≡◌}
use Rattle.form.specs.Records.{parts_in}
use Rattle.form.specs.Form.{walked, step}
use Rattle.form.proofs.forms.records.Given as goal

abbrev pub invariant-loop-s : goal.invariant-loop-s
invariant-loop-s l = Ok l.place ≡ walked (step l.bytes) (parts_in l.users.grid.now l.users.instances l.users.tasks l.s) (Ok (record { at = 0; count = 0; sum = 0 }))
