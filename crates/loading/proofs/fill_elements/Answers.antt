-- The part of the store that is filled.
use native.Mathlib.Omega.{arith}
use Rattle.loading.specs.Laid.{fill_elements}
use Rattle.loading.proofs.Stretch.{put_is}
use Rattle.loading.proofs.fill_elements.Goals as goal

pub returns : goal.returns
unfolding fill_elements
returns c = let a = c.args in put_is a.base _ a.n a.word a.store.now _ (omega arith) (omega arith) (c.fill.ensures.after (λ y e. e))
