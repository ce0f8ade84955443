-- `verdict::check_with` meets its contract: the form's refusal, else done where the schedule passes, else the fault.
use mathlib.Core.Path.{sym, ap, ◌∙◌}
use Rattle.rules.specs.Numbers.{told}
use Rattle.fields.proofs.Told.{handed_on}
use Rattle.form.proofs.Parted.{check_form}
use Rattle.verdict.proofs.Formed.{broken_said}
use Rattle.verdict.proofs.check_with.Goals as goal

pub returns-in_err-form : goal.returns-in_err-form
returns-in_err-form c =
    ap told (handed_on c.from_residual.result c.in_err-form.field-0.0 c.from_residual.ensures ∙ sym c.in_err-form.was) ∙ c.form.ensures ∙ sym (check_form _ _ (broken_said c.form.ensures c.in_err-form.was))
