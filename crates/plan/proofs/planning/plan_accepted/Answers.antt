-- `plan::planning::plan_accepted` meets its contract. Assumes nothing.
use mathlib.Core.List.{◌++◌}
use mathlib.Core.Path.{ap, ◌∙◌}
use native.Mathlib.Omega.{arith}
use lib.ListN.{drop, length-take}
use Rattle.rules.specs.Numbers.{tell}
use Rattle.rules.specs.Bytes.{schedule_length}
use Rattle.rules.specs.Reading.{table_of}
use Rattle.plan.proofs.Planned.{sum_of, bytes_of_lem, over, short, whole}
use Rattle.plan.proofs.planning.plan_accepted.Goals as goal

pub in_all-requires : goal.in_all-requires
in_all-requires c = let a = c.args.accepted.now in omega (arith, a.fits.few_signals, length-take a.signals.count c.plan_uses.new.counts)

pub returns-then-in_all-gt-WORDS : goal.returns-then-in_all-gt-WORDS
returns-then-in_all-gt-WORDS c = let a = c.args.accepted.now in
    let F = a.fits in
    let P = c.plan_uses.ensures in
    over (table_of a.tasks a.signals a.grid) F c.args.out.now (omega (arith, c.if-in_all-gt-WORDS.true, sum_of a.tasks a.signals a.grid F _ _ P.0 P.1 _ c.in_all.ensures))

pub returns-then-out-bytes : goal.returns-then-out-bytes
returns-then-out-bytes c = let a = c.args.accepted.now in
    let F = a.fits in
    let P = c.plan_uses.ensures in
    let e = c.length-bytes.ensures in
    let r = short (table_of a.tasks a.signals a.grid) F c.args.out.now (omega (arith, c.if-in_all-gt-WORDS.false, sum_of a.tasks a.signals a.grid F _ _ P.0 P.1 _ c.in_all.ensures)) (omega (arith, c.if-out-bytes.true)) in
    (ap (tell 14) e ∙ r.0, r.1)

pub returns : goal.returns
returns c = let a = c.args.accepted.now in
    let F = a.fits in
    let P = c.plan_uses.ensures in
    let e = c.length-bytes.ensures in
    let r = whole (table_of a.tasks a.signals a.grid) F c.args.out.now (omega (arith, c.if-in_all-gt-WORDS.false, sum_of a.tasks a.signals a.grid F _ _ P.0 P.1 _ c.in_all.ensures)) (omega (arith, c.if-out-bytes.false)) in (
      ap (tell 0) e ∙ r.0,
      c.write.ensures ∙ ap (λ bs. bs ++ drop (schedule_length (table_of a.tasks a.signals a.grid)) c.args.out.now) (bytes_of_lem a.tasks a.signals a.grid F _ _ P.0 P.1) ∙ r.1,
    )
