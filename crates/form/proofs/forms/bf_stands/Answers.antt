use Rattle.form.proofs.Steps.{bf_marked}
use Rattle.form.proofs.forms.bf_stands.Goals as goal

pub returns-then-marked : goal.returns-then-marked
returns-then-marked c = rw (bf_marked c.args.bytes.now c.args.at c.args.signal c.requires, ← c.marked.ensures, c.if-marked.true, c.from.ensures)

pub returns-else-marked : goal.returns-else-marked
returns-else-marked c = rw (bf_marked c.args.bytes.now c.args.at c.args.signal c.requires, ← c.marked.ensures, c.if-marked.false)
