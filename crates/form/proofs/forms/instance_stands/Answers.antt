-- `forms::instance_stands` meets its contract: the two bytes as one number.
use mathlib.Core.Path.{◌∙◌}
use Rattle.form.specs.Form.{instance_stands}
use Rattle.form.proofs.Steps.{same_eqb, two_bytes}
use Rattle.form.proofs.forms.instance_stands.Goals as goal

pub returns : goal.returns
unfolding instance_stands
returns c = same_eqb _ (c.from.ensures ∙ c.from_be_bytes.ensures) ∙ two_bytes _ _ _ (c.type_inv.bytes _).fits
