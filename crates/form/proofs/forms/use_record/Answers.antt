-- `forms::use_record` meets its contract: whole, fixed bytes, element, in this order.
use native.Mathlib.Omega.{arith}
use Rattle.fields.proofs.Tested.{granted, room}
use Rattle.fields.proofs.Whens.{ladder}
use Rattle.form.specs.Form.{use_step}
use Rattle.form.proofs.forms.use_record.Goals as goal

pub returns-then-not-holds : goal.returns-then-not-holds
unfolding use_step
returns-then-not-holds c = search ladder

pub use_stands-requires : goal.use_stands-requires
unfolding use_step
use_stands-requires c = (room _ _ _ (granted c.holds.ensures c.if-not-holds.false-raw))

pub returns-then-not-use_stands : goal.returns-then-not-use_stands
unfolding use_step
returns-then-not-use_stands c = search ladder

pub overflow_add-at : goal.overflow_add-at
unfolding use_step
overflow_add-at c = omega (arith, (room _ _ _ (granted c.holds.ensures c.if-not-holds.false-raw)))

pub bounds-bytes-at : goal.bounds-bytes-at
unfolding use_step
bounds-bytes-at c = omega (arith, (room _ _ _ (granted c.holds.ensures c.if-not-holds.false-raw)))

pub returns-then-from-bytes : goal.returns-then-from-bytes
unfolding use_step
returns-then-from-bytes c = search ladder depth 9

pub overflow_add-result : goal.overflow_add-result
unfolding use_step
overflow_add-result c = omega (arith, (room _ _ _ (granted c.holds.ensures c.if-not-holds.false-raw)))

pub returns : goal.returns
unfolding use_step
returns c = search ladder depth 9
