-- `put_signals` meets its contract: the signals below s have put their records.
use mathlib.Core.Path.{refl, sym}
use native.Mathlib.Omega.{arith}
use Rattle.form.specs.Records.{parts_in}
use Rattle.form.proofs.Walks.{walked_none, walked_turn}
use Rattle.schedule.proofs.Puts.{uses_none, uses_more}
use Rattle.schedule.proofs.put_signals.Goals as goal

pub loop-s-init : goal.loop-s-init
unfolding parts_in
loop-s-init c = let u = c.args.users.now in (sym (uses_none u.grid.now u.instances u.tasks), refl, walked_none _ _ _)

pub put_signal-used-requires : goal.put_signal-used-requires
put_signal-used-requires c = let u = c.args.users.now in
    let m = uses_more u.grid.now u.instances u.tasks c.loop-s.s c.args.signals c.loop-s-test.true in
    record { few = omega arith; room = omega arith }

pub loop-s-preserved : goal.loop-s-preserved
unfolding parts_in
loop-s-preserved c = let u = c.args.users.now in
    let m = uses_more u.grid.now u.instances u.tasks c.loop-s.s c.args.signals c.loop-s-test.true in
    (omega (arith, c.put_signal-used.ensures.many), omega arith, walked_turn _ _ _ _ c.loop-s.invariant.2 c.put_signal-used.ensures.is)
