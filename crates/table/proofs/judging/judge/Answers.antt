use Rattle.std.proofs.Common.{◌≡◌, sym, ◌∙◌, arith, rules}
use Rattle.std.specs.Prelude.{Err}
use Rattle.table.proofs.Says.{says_no_task, says_long, hyper_ticks, hyper_above}
use Rattle.table.proofs.judging.judge.Goals as goal

pub returns-then-windowed-eq0 : goal.returns-then-windowed-eq0
returns-then-windowed-eq0 c = says_no_task _ c.if-windowed-eq0.true

pub judge_within-requires : goal.judge_within-requires
judge_within-requires c =
    let (e, l) = hyper_ticks c.args.windowed.tasks _ _ (sym c.hyper_period.ensures) (sym c.ok_or.ensures.value ∙ c.in_ok-hyper.was) in
    (c.requires, omega arith, l, e)

pub returns-in_err-hyper : goal.returns-in_err-hyper
returns-in_err-hyper c =
    let e : c.from_residual.result ≡ Err c.in_err-hyper.field-0.0 = search rules in
    let (l, q) = hyper_above c.args.windowed.tasks _ _ (sym c.hyper_period.ensures) (sym c.ok_or.ensures.value ∙ c.in_err-hyper.was) in
    rw (e, q) (says_long _ c.if-windowed-eq0.false l)
