-- `put_refused` meets its contract. Assumes nothing.
use mathlib.Core.Path.{◌∙◌}
use Rattle.rules.specs.Numbers.{told}
use Rattle.rules.specs.Listing.{ascii, named}
use Rattle.text.proofs.Put.{led}
use Rattle.text.proofs.lines.put_refused.Goals as goal

pub returns : goal.returns
returns c = (
  c.put_last.ensures.0 ∙ c.put_named.ensures.0,
  led (named (ascii "refused ") (told c.args.answer).number) (named (ascii " place ") (told c.args.answer).place) _
      (rw (c.from.ensures, c.number.ensures) at c.put_named.ensures.1)
      (rw c.place.ensures at c.put_last.ensures.1),
)
