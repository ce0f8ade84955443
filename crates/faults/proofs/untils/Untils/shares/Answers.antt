-- `untils::Untils::shares` meets its contract: the carried value first, then the earlier ones.
use mathlib.Core.Path.{◌∙◌}
use Rattle.faults.proofs.Clashing.{shares_carried, shares_earlier}
use Rattle.faults.proofs.Numbered.{writers_asked, in_reach, value_is}
use Rattle.faults.proofs.untils.Untils.shares.Goals as goal

pub writer-requires : goal.writer-requires
writer-requires c = writers_asked c.args.self.now.view _ c.requires.0

pub written-held-requires : goal.written-held-requires
written-held-requires c = in_reach c.args.self.now.view _ c.writer.ensures _ c.requires

pub returns-then-clashes : goal.returns-then-clashes
returns-then-clashes c = let u = c.args.self.now in
    shares_carried u _ _ c.requires (c.written-held.ensures ∙ value_is u.view _ c.writer.ensures u.ticks.now u.kept _ c.requires) c.carried_value.ensures c.clashes.ensures c.if-clashes.true

pub returns-else-clashes : goal.returns-else-clashes
returns-else-clashes c = let u = c.args.self.now in
    shares_earlier u _ _ c.requires (c.written-held.ensures ∙ value_is u.view _ c.writer.ensures u.ticks.now u.kept _ c.requires) c.carried_value.ensures c.clashes.ensures c.if-clashes.false c.apart_from_earlier.ensures
