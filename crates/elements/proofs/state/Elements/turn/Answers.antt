-- `Elements::turn` meets its contract: what a publication leaves is said of any uses.
use Rattle.std.proofs.Common.{rules}
use Rattle.elements.specs.Pass.{turn_of}
use Rattle.elements.proofs.state.Elements.turn.Goals as goal

pub returns-then-is_some : goal.returns-then-is_some
unfolding turn_of
returns-then-is_some c = search (rules, c.publish.ensures c.args.uses.now)
