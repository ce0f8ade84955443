-- `sweep::signals_pass` meets its contract: what is asked of all signals is known of this one.
use native.Mathlib.Omega.{arith}
use Rattle.sweep.proofs.Placed.{users_are}
use Rattle.sweep.proofs.Whole.{one, starts_low}
use Rattle.sweep.proofs.signals_pass.Goals as goal

pub places_at-places-requires : goal.places_at-places-requires
places_at-places-requires c = let A = c.requires in let l = c.loop-s-test.true in
    (omega (arith, A.few), omega (arith, c.loop-s.invariant.0, starts_low _ _ _ _ A _ l))

pub signal_passes-requires : goal.signal_passes-requires
signal_passes-requires c = let a = c.args.accepted.now in let u = c.new-users.ensures in
    one a _ _ _ c.requires _ _ c.loop-s-test.true (c.places_at-places.ensures a (users_are u.grid u.tasks u.instances) c.loop-s.invariant.0).0
