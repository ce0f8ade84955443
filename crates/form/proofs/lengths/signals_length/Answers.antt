-- `lengths::signals_length` meets its contract: the sum over the signals below s.
use mathlib.Core.Path.{refl}
use native.Mathlib.Omega.{arith}
use Rattle.form.proofs.Steps.{total_none, total_turn}
use Rattle.form.proofs.lengths.signals_length.Goals as goal

pub loop-s-init : goal.loop-s-init
loop-s-init c = (total_none _, omega arith)

pub loop-s-preserved : goal.loop-s-preserved
loop-s-preserved c = (total_turn _ _ c.loop-s.invariant.0 c.signal_length-bytes.ensures.is refl, omega arith)
