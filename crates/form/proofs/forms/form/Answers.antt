-- `forms::form` meets its contract: the walk over the records, and its end.
use mathlib.Core.Path.{refl, sym, ap, ◌∙◌}
use Rattle.fields.proofs.Told.{handed_on}
use Rattle.form.specs.Form.{end_of}
use Rattle.form.proofs.Parted.{by_periods}
use Rattle.form.proofs.Formed.{form_is}
use Rattle.form.proofs.forms.form.Goals as goal

pub returns-in_err-place : goal.returns-in_err-place
returns-in_err-place c = let u = c.new-users.ensures in let a = c.args.accepted.now in let own = by_periods a.tasks a.signals a.grid a.own in
    let p = handed_on c.from_residual.result c.in_err-place.field-0.0 c.from_residual.ensures in
    rw p (form_is a.tasks a.signals _ _ _ own u.instances _ refl _ u.grid u.tasks c.records.ensures (sym (ap (end_of _) c.in_err-place.was)))

pub returns : goal.returns
returns c = let u = c.new-users.ensures in let a = c.args.accepted.now in let own = by_periods a.tasks a.signals a.grid a.own in
    form_is a.tasks a.signals _ _ _ own u.instances _ refl _ u.grid u.tasks c.records.ensures (c.end.ensures ∙ sym (ap (end_of _) c.in_ok-place.was))
