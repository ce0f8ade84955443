-- Both grids of accesses, one after the other.
use native.Mathlib.Omega.{arith}
use mathlib.Core.Path.{refl}
use Prim.Native.Nat.{◌+◌}
use Rattle.state.specs.Parts.{none, cells, reads}
use Rattle.loading.specs.Laid.{blank}
use Rattle.loading.proofs.Stretch.{put_is}
use Rattle.loading.proofs.clear.Goals as goal

pub returns : goal.returns
unfolding blank
returns c = put_is reads (cells + cells) (cells + cells) none _ _ (omega arith) refl (c.fill.ensures.after (λ y e. e))
