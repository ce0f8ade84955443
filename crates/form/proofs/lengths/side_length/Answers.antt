-- `lengths::side_length` meets its contract: the sum over the tasks below k.
use mathlib.Core.Path.{refl}
use native.Mathlib.Omega.{arith}
use Rattle.form.specs.Records.{users_below}
use Rattle.form.proofs.Steps.{users_few, total_none, total_turn}
use Rattle.form.proofs.lengths.side_length.Goals as goal

pub loop-k-init : goal.loop-k-init
unfolding users_below
loop-k-init c = (total_none _, omega arith)

pub overflow_add-records : goal.overflow_add-records
overflow_add-records c = omega (arith, users_few _ _ _ _ _ c.records-records.ensures (c.args.users.now.short _ c.loop-k-test.true))

pub loop-k-preserved : goal.loop-k-preserved
unfolding users_below
loop-k-preserved c = (total_turn _ _ c.loop-k.invariant.0 c.records-records.ensures refl, omega (arith, users_few _ _ _ _ _ c.records-records.ensures (c.args.users.now.short _ c.loop-k-test.true)))
