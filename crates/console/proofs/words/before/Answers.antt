-- `before` meets its contract: where the mark was not found, all bytes stand before it. Assumes nothing.
use Rattle.std.proofs.Common.{rules, tests, ◌==◌}
use Rattle.std.proofs.lemmas.Iterator.{YieldsList-from_slice}
use Rattle.std.proofs.lemmas.Iterator.Search.{position_from_yields_List}
use Rattle.console.proofs.Numbers.{place_most, place_or}
use Rattle.console.proofs.words.before.Goals as goal

pub returns : goal.returns
returns c = place_or _ _ (place_most (λ b. b == c.args.mark) c.args.bytes.now) (position_from_yields_List (λ b. b == c.args.mark) _ _ _ c.position.ensures.ran (YieldsList-from_slice c.args.bytes.now cc) (λ x b q k. search (rules, tests))) c.unwrap_or.ensures
