-- `events::order_events` meets its contract. The loop's invariant: those below a number are taken, and each task has its next one. Assumes nothing.
use native.Mathlib.Omega.{arith}
use Rattle.events.proofs.Merged.{merge_starts, merge_room, merge_turn, merge_ends}
use Rattle.events.proofs.order_events.Goals as goal

pub loop-tasks-init : goal.loop-tasks-init
loop-tasks-init c = let F = c.requires.0 in
    let first = c.first_openings-next.ensures in
    (F, omega (arith, c.requires.1), merge_starts c.args.tasks F c.first_openings-next.result first.0 first.1)

pub returns-then-event-end : goal.returns-then-event-end
returns-then-event-end c = let I = c.loop-tasks.invariant in
    merge_ends _ I.0 _ _ _ _ I.2 c.least-k.ensures (omega (arith, I.1, c.if-event-end.true))

pub offset_bounds-list-count : goal.offset_bounds-list-count
offset_bounds-list-count c =
    let I = c.loop-tasks.invariant in
    omega (arith, merge_room _ I.0 _ _ _ _ I.2 c.least-k.ensures (omega (arith, I.1, c.if-event-end.false)))

-- one more has room, since there are two for each instance
pub bounds-list-count : goal.bounds-list-count
bounds-list-count c = let I = c.loop-tasks.invariant in
    omega (arith, merge_room _ I.0 _ _ _ _ I.2 c.least-k.ensures (omega (arith, I.1, c.if-event-end.false)))

pub overflow_add-count : goal.overflow_add-count
overflow_add-count c =
    let I = c.loop-tasks.invariant in
    omega (arith, merge_room _ I.0 _ _ _ _ I.2 c.least-k.ensures (omega (arith, I.1, c.if-event-end.false)))

pub loop-tasks-smaller : goal.loop-tasks-smaller
loop-tasks-smaller c =
    let I = c.loop-tasks.invariant in
    omega (arith, merge_room _ I.0 _ _ _ _ I.2 c.least-k.ensures (omega (arith, I.1, c.if-event-end.false)))

pub loop-tasks-preserved : goal.loop-tasks-preserved
loop-tasks-preserved c = let I = c.loop-tasks.invariant in
    (I.0, I.1, rw c.following.ensures (merge_turn _ I.0 _ _ _ _ I.2 c.least-k.ensures (omega (arith, I.1, c.if-event-end.false))))
