-- `inspect::check_schedule` meets its contract: the table's refusal, else what the check with that table says.
use Rattle.std.proofs.Common.{subst}
use Rattle.accept.specs.Accepts.{Accepts}
use Rattle.verdict.proofs.Loaded.{load_refused, load_checked}
use Rattle.inspect.proofs.check_schedule.Goals as goal

pub returns-in-Err : goal.returns-in-Err
returns-in-Err c = load_refused c.args.table.now c.args.schedule.now c.in-Err.refusal (subst (Accepts c.args.table.now) c.in-Err.is c.accept_apart.ensures)

pub returns-in-Ok : goal.returns-in-Ok
returns-in-Ok c =
    let given = subst (Accepts c.args.table.now) c.in-Ok.is c.accept_apart.ensures in
    load_checked c.args.table.now c.args.schedule.now given.0 given.1 c.check_with.ensures
