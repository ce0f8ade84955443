-- `forms::end` meets its contract: EN is whole and right, nothing comes after it, and the sum has room.
use native.Mathlib.Omega.{arith}
use Rattle.fields.proofs.Tested.{granted, room}
use Rattle.fields.proofs.Whens.{ladder}
use Rattle.form.specs.Form.{end_step}
use Rattle.form.proofs.forms.end.Goals as goal

pub returns-then-not-holds : goal.returns-then-not-holds
unfolding end_step
returns-then-not-holds c = search ladder

pub returns-then-not-marked : goal.returns-then-not-marked
unfolding end_step
returns-then-not-marked c = search ladder

pub overflow_add-at : goal.overflow_add-at
unfolding end_step
overflow_add-at c = omega (arith, (room _ _ _ (granted c.holds.ensures c.if-not-holds.false-raw)))

pub overflow_add-result : goal.overflow_add-result
unfolding end_step
overflow_add-result c = omega (arith, (room _ _ _ (granted c.holds.ensures c.if-not-holds.false-raw)))

pub returns-then-at-bytes : goal.returns-then-at-bytes
unfolding end_step
returns-then-at-bytes c = search ladder depth 9

pub returns-then-place-gt-WORDS : goal.returns-then-place-gt-WORDS
unfolding end_step
returns-then-place-gt-WORDS c = search ladder depth 9

pub returns : goal.returns
unfolding end_step
returns c = search ladder depth 9
