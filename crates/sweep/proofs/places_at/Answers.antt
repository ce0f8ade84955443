-- `sweep::places_at` meets its contract: writers after the count, readers after the writers.
use Rattle.sweep.proofs.Placed.{located}
use Rattle.sweep.proofs.places_at.Goals as goal

pub returns : goal.returns
returns c = λ a U e. located a _ U _ _ _ _ _ e c.starts.ensures.starts c.starts.ensures.next c.starts-2.ensures.starts c.starts-2.ensures.next
