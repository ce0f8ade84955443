-- `forms::signal_record` meets its contract: whole, fixed bytes, count, in this order.
use native.Mathlib.Omega.{arith}
use Rattle.fields.proofs.Tested.{granted, room}
use Rattle.fields.proofs.Whens.{ladder}
use Rattle.form.specs.Form.{signal_step}
use Prim.Native.Nat.{◌+◌, ◌<◌, ◌≤◌}
use Rattle.rules.specs.Table.{most_elements}
use Rattle.rules.specs.Fields.{byte_at}
use Rattle.form.proofs.forms.signal_record.Goals as goal

pub returns-then-not-holds : goal.returns-then-not-holds
unfolding signal_step
returns-then-not-holds c = search ladder

pub bf_stands-requires : goal.bf_stands-requires
unfolding signal_step
bf_stands-requires c = (room _ _ _ (granted c.holds.ensures c.if-not-holds.false-raw))

pub returns-then-not-bf_stands : goal.returns-then-not-bf_stands
unfolding signal_step
returns-then-not-bf_stands c = search ladder

pub overflow_add-count : goal.overflow_add-count
unfolding signal_step
overflow_add-count c = omega (arith, (room _ _ _ (granted c.holds.ensures c.if-not-holds.false-raw)))

pub bounds-bytes-at : goal.bounds-bytes-at
unfolding signal_step
bounds-bytes-at c = omega (arith, (room _ _ _ (granted c.holds.ensures c.if-not-holds.false-raw)))

pub returns-then-count-lt1 : goal.returns-then-count-lt1
unfolding signal_step
returns-then-count-lt1 c = search ladder depth 9

pub returns-then-from-gt-MOST_ELEMENTS : goal.returns-then-from-gt-MOST_ELEMENTS
unfolding signal_step
returns-then-from-gt-MOST_ELEMENTS c = let h : most_elements < byte_at c.args.bytes.now (c.args.from.at + 3) = omega (arith, c.from.ensures, c.if-from-gt-MOST_ELEMENTS.true) in
    search (ladder, h) depth 9

pub overflow_add-result : goal.overflow_add-result
unfolding signal_step
overflow_add-result c = omega (arith, (room _ _ _ (granted c.holds.ensures c.if-not-holds.false-raw)))

pub returns : goal.returns
unfolding signal_step
returns c = let h : byte_at c.args.bytes.now (c.args.from.at + 3) ≤ most_elements = omega (arith, c.from.ensures, c.if-from-gt-MOST_ELEMENTS.false) in
    rw c.from-2.ensures (search (ladder, h) depth 9)
