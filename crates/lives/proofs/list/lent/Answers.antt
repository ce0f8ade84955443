-- The records lent are those of a list of so many. Assumes nothing.
use Rattle.std.proofs.Common.{arith, replicate}
use Rattle.rules.specs.Table.{most_lent}
use Rattle.lives.proofs.Exact.{lent_gives}
use Rattle.lives.proofs.list.lent.Goals as goal

pub returns : goal.returns
returns c =
    let given = c.live_list-answer.ensures in
    lent_gives c.args.table.now c.args.signal (replicate most_lent c.args.before) c.min-first.ensures (omega arith) given.0 given.1
