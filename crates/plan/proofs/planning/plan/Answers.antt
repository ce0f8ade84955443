-- `plan::planning::plan` meets its contract. Assumes nothing.
use Rattle.fields.proofs.Told.{handed_on}
use Rattle.plan.proofs.Told.{refused, accepted}
use Rattle.plan.proofs.planning.plan.Goals as goal

pub returns-in_err-accepted : goal.returns-in_err-accepted
returns-in_err-accepted c =
    let e = handed_on c.from_residual.result c.in_err-accepted.field-0.0 c.from_residual.ensures in
    rw e (refused c.args.table.now c.args.out.now _ c.in_err-accepted.ensures)

pub returns : goal.returns
returns c =
    let t = c.in_ok-accepted.ensures in
    let P = c.plan_accepted.ensures in
    accepted c.args.table.now c.args.out.now t.0 t.1 _ _ P.0 P.1
