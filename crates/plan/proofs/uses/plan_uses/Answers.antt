-- `uses::plan_uses` meets its contract. The loop's invariant: the signals below s are planned. Assumes nothing.
use mathlib.Core.Path.{refl}
use native.Mathlib.Numerals.{add-one}
use native.Mathlib.Omega.{arith}
use Rattle.events.proofs.Alone.{fits_tasks, hyper_tasks}
use Rattle.elements.specs.Pass.{pass_table}
use Rattle.plan.specs.Uses.{uses_planned, counts_planned}
use Rattle.plan.proofs.Laying.{first_none, listed, first_more, pass_ready, counts_turn, uses_turn}
use Rattle.plan.proofs.uses.plan_uses.Goals as goal

pub order_events-ordered-requires : goal.order_events-ordered-requires
order_events-ordered-requires c = let a = c.args.accepted.now in (fits_tasks a, hyper_tasks a)

pub loop-s-init : goal.loop-s-init
unfolding counts_planned uses_planned
loop-s-init c = (first_none _, refl, refl)

pub number_uses-numbers-requires : goal.number_uses-numbers-requires
number_uses-numbers-requires c = let a = c.args.accepted.now in
    let u = c.new-users.ensures in
    let more = first_more a c.new-users.result.instances u.instances c.loop-s.s u.grid u.tasks c.loop-s-test.true in
    (omega (arith, a.fits.few_signals), omega (arith, more, c.loop-s.invariant.0))

pub plan_signal-requires : goal.plan_signal-requires
plan_signal-requires c = let a = c.args.accepted.now in
    let u = c.new-users.ensures in
    pass_ready a c.new-users.result.instances u.instances c.loop-s.s _ c.number_uses-numbers.result _ u.grid u.tasks c.loop-s-test.true c.loop-s.invariant.0 c.number_uses-numbers.ensures.numbered (listed _ _ c.order_events-ordered.ensures c.numbers-events.ensures)

pub loop-s-preserved : goal.loop-s-preserved
loop-s-preserved c = let a = c.args.accepted.now in
    let u = c.new-users.ensures in
    let L = c.loop-s in
    let more = first_more a c.new-users.result.instances u.instances L.s u.grid u.tasks c.loop-s-test.true in
    let tab = pass_table a.tasks a.grid in (
      rw (add-one L.s) (omega (arith, more, L.invariant.0, c.number_uses-numbers.ensures.next)),
      counts_turn tab c.args.counts.now c.args.uses.now L.counts L.uses L.s _ L.invariant.1 L.invariant.2 c.plan_signal.ensures.chosen.0,
      uses_turn tab c.args.uses.now L.uses _ L.s L.invariant.2 c.plan_signal.ensures.chosen.1,
    )
