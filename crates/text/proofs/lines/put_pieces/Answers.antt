-- `put_pieces` meets its contract. Assumes nothing.
use mathlib.Core.List.{◌++◌}
use mathlib.Core.Path.{◌∙◌}
use Rattle.rules.specs.Listing.{ascii, named}
use Rattle.text.proofs.Put.{joined, led}
use Rattle.text.proofs.lines.put_pieces.Goals as goal

pub returns : goal.returns
returns c =
    let task = named c.args.name.now c.args.task in
    let instance = named (ascii " ") c.args.instance in (
      c.put_last.ensures.0 ∙ c.put_named-2.ensures.0 ∙ c.put_named.ensures.0,
      led (task ++ instance) (named (ascii " element ") c.args.element) _
          (joined task instance _ (rw c.from.ensures at c.put_named.ensures.1) (rw c.from-2.ensures at c.put_named-2.ensures.1))
          (rw c.from-3.ensures at c.put_last.ensures.1),
    )
