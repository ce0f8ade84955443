-- `events::least` meets its contract. Assumes nothing.
use Rattle.std.proofs.Common.{rules}
use Rattle.std.proofs.lemmas.Iterator.{YieldsList-from_range}
use mathlib.Core.Path.{refl}
use native.Mathlib.Omega.{arith}
use Rattle.events.proofs.Lesser.{least_by}
use Rattle.events.proofs.least.Goals as goal

pub returns : goal.returns
returns c = let n = c.args.count in
    least_by _ _ c.args.next.now _ c.requires.0 (YieldsList-from_range 0 n n refl (omega arith)) c.min_by.ensures.ran c.unwrap_or.ensures (λ j k o q called. search rules)
