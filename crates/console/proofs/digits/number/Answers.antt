-- `number` meets its contract: the digits that are left make of the number so far what all make. Assumes nothing.
use Rattle.std.proofs.Common.{rules, ◌∙◌, arith}
use Rattle.std.proofs.lemmas.Grind.{common_steps}
use Rattle.console.specs.Digits.{number_of}
use Rattle.console.proofs.Numbers.{some_digits, no_digit, above, all_read}
use Rattle.console.proofs.digits.number.Goals as goal

pub returns-then-is_empty : goal.returns-then-is_empty
unfolding number_of
returns-then-is_empty c = grind (arith, common_steps)

pub returns-in_err-d : goal.returns-in_err-d
returns-in_err-d c = c.from_residual.ensures ∙ no_digit _ _ _ _ c.loop-b-test.true c.loop-b.invariant c.in_err-d.ensures ∙ some_digits _ _ c.is_empty.ensures c.if-is_empty.false

pub returns-in_err-checked_mul : goal.returns-in_err-checked_mul
returns-in_err-checked_mul c =
    c.from_residual-in_err-checked_mul.ensures
    ∙ above _ _ _ _ c.loop-b-test.true c.loop-b.invariant c.in_ok-d.d c.in_ok-d.ensures (let h = c.in_err-checked_mul.ensures in omega arith)
    ∙ some_digits _ _ c.is_empty.ensures c.if-is_empty.false

pub returns-in_err-so_far : goal.returns-in_err-so_far
returns-in_err-so_far c =
    c.from_residual-in_err-so_far.ensures
    ∙ above _ _ _ _ c.loop-b-test.true c.loop-b.invariant c.in_ok-d.d c.in_ok-d.ensures (let h = c.in_err-so_far.ensures in let k = c.in_ok-checked_mul.ensures in omega arith)
    ∙ some_digits _ _ c.is_empty.ensures c.if-is_empty.false

pub returns : goal.returns
returns c = all_read _ _ _ _ c.loop-b-test.false c.loop-b.invariant (search rules) ∙ some_digits _ _ c.is_empty.ensures c.if-is_empty.false
