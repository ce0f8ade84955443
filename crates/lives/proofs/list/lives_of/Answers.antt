-- What is filled in, or the rule that broke, refusal by refusal. Assumes nothing.
use Rattle.std.proofs.Common.{arith}
use Rattle.fields.proofs.Told.{handed_on}
use Rattle.lives.proofs.Says.{refused, unknown, short, whole}
use Rattle.lives.proofs.list.lives_of.Goals as goal

pub returns-in_err-accepted : goal.returns-in_err-accepted
returns-in_err-accepted c =
    rw (handed_on c.from_residual.result c.in_err-accepted.field-0.0 c.from_residual.ensures) (refused _ _ _ _ c.in_err-accepted.ensures)

pub returns-then-accepted-signal : goal.returns-then-accepted-signal
returns-then-accepted-signal c = unknown _ c.in_ok-accepted.accepted c.in_ok-accepted.ensures _ _ c.if-accepted-signal.true

pub returns-then-room-lives : goal.returns-then-room-lives
returns-then-room-lives c =
    let found = c.values_of-lives in
    short _ c.in_ok-accepted.accepted c.in_ok-accepted.ensures _ _ (omega (arith, c.if-accepted-signal.false)) found.result found.ensures.count.0 c.if-room-lives.true

pub returns : goal.returns
returns c =
    let found = c.values_of-lives in
    whole _ c.in_ok-accepted.accepted c.in_ok-accepted.ensures _ _ (omega (arith, c.if-accepted-signal.false))
    found.result found.ensures.count.0 c.if-room-lives.false found.ensures.count.1 found.ensures.values
