-- `put_last` meets its contract. Assumes nothing.
use mathlib.Core.Path.{◌∙◌}
use Rattle.text.proofs.Put.{fed}
use Rattle.text.proofs.lines.put_last.Goals as goal

pub returns : goal.returns
returns c = (c.put.ensures.0 ∙ c.put_named.ensures.0, fed _ _ c.put_named.ensures.1 c.put.ensures.1)
