-- `put_signal` meets its contract. Assumes nothing.
use mathlib.Core.Path.{◌∙◌}
use Rattle.rules.specs.Listing.{ascii, named}
use Rattle.text.proofs.Put.{led}
use Rattle.text.proofs.lines.put_signal.Goals as goal

pub returns : goal.returns
returns c = (
  c.put_last.ensures.0 ∙ c.put_named.ensures.0,
  led (named (ascii "signal ") c.args.signal) (named (ascii " elements ") c.args.count) _
      (rw c.from.ensures at c.put_named.ensures.1)
      (rw c.from-2.ensures at c.put_last.ensures.1),
)
