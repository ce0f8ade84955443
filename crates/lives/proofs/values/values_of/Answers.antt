-- Along the openings and closings of the hyper-period the arrays hold the values found so far. Assumes nothing.
use Rattle.events.proofs.Alone.{fits_tasks, hyper_tasks}
use Rattle.std.proofs.Common.{List, length, take, ◌≡◌, sym, subst, ◌∙◌, arith}
use Rattle.rules.specs.Values.{Life}
use Rattle.lives.specs.Values.{Held}
use Rattle.lives.proofs.Held.{moved}
use Rattle.lives.proofs.Found.{turns_are, opens_one, starts, passes_by, room, finds, all_counted, all_found}
use Rattle.lives.proofs.values.values_of.Goals as goal
use Rattle.lives.proofs.values.values_of.Goals.{then-is_written, else-is_written}

pub order_events-events-requires : goal.order_events-events-requires
order_events-events-requires c = let a = c.args.accepted.now in (fits_tasks a, hyper_tasks a)

pub loop-event-init : goal.loop-event-init
loop-event-init c =
    let a = c.args.accepted.now in
    starts a c.args.signal c.requires _ (turns_are _ c.order_events-events.ensures c.numbers-turns.ensures) c.live_until-carried.ensures

pub written-requires : goal.written-requires
written-requires c =
    let a = c.args.accepted.now in
    opens_one a c.args.signal c.requires _ (turns_are _ c.order_events-events.ensures c.numbers-turns.ensures) _ c.loop-event-test.true (sym c.is_written.ensures ∙ c.if-is_written.true)

-- there is room for one value more
pub bounds-values-count : goal.bounds-values-count
bounds-values-count c =
    let a = c.args.accepted.now in
    room a c.args.signal c.requires _ (turns_are _ c.order_events-events.ensures c.numbers-turns.ensures) _ c.loop-event-test.true (sym c.is_written.ensures ∙ c.if-is_written.true) _ _ _ c.loop-event.invariant

pub offset_bounds-values-count : goal.offset_bounds-values-count
offset_bounds-values-count c =
    let a = c.args.accepted.now in
    omega (arith, room a c.args.signal c.requires _ (turns_are _ c.order_events-events.ensures c.numbers-turns.ensures) _ c.loop-event-test.true (sym c.is_written.ensures ∙ c.if-is_written.true) _ _ _ c.loop-event.invariant)

pub overflow_add-count : goal.overflow_add-count
overflow_add-count c =
    let a = c.args.accepted.now in
    omega (arith, room a c.args.signal c.requires _ (turns_are _ c.order_events-events.ensures c.numbers-turns.ensures) _ c.loop-event-test.true (sym c.is_written.ensures ∙ c.if-is_written.true) _ _ _ c.loop-event.invariant)

pub loop-event-preserved : goal.loop-event-preserved
loop-event-preserved c =
    let a = c.args.accepted.now in
    let taken = c.loop-event-test.true in
    let said = sym c.is_written.ensures in
    let turns = turns_are _ c.order_events-events.ensures c.numbers-turns.ensures in
    elim c.if-is_written.branch [
      | then-is_written w ↦ moved w.held-is w.values-is w.count-is
          (finds a c.args.signal c.requires _ turns _ taken (said ∙ w.if-is_written.true) _ _ _ c.loop-event.invariant _ _ w.written.ensures.value w.written.ensures.holds)
      | else-is_written w ↦ moved w.held-is w.values-is w.count-is
          (subst (λ (ls : List Life). Held ls c.loop-event.held c.loop-event.values c.loop-event.count)
          (sym (passes_by a c.args.signal c.requires _ turns _ (said ∙ w.if-is_written.false))) c.loop-event.invariant)
    ]

pub returns-clause-count : goal.returns-clause-count
returns-clause-count c =
    let a = c.args.accepted.now in
    let e : c.loop-event.event-index ≡ length c.numbers-turns.result.now = omega arith in
    all_counted a c.args.signal c.requires _ (turns_are _ c.order_events-events.ensures c.numbers-turns.ensures) _ e _ _ _ c.loop-event.invariant

pub returns-clause-values : goal.returns-clause-values
returns-clause-values c =
    let a = c.args.accepted.now in
    let e : c.loop-event.event-index ≡ length c.numbers-turns.result.now = omega arith in
    all_found a c.args.signal c.requires _ (turns_are _ c.order_events-events.ensures c.numbers-turns.ensures) _ e _ _ _ c.loop-event.invariant
