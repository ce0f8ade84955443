use Rattle.std.proofs.Common.{◌+◌, sym, arith}
use Rattle.std.proofs.lemmas.List.{get_or-take}
use Rattle.rules.specs.Reading.{no_task}
use Rattle.windows.proofs.Periods.{lcm_turn, above_early}
use Rattle.windows.proofs.hyper_period.Goals as goal

pub returns-then-hyper-gt-LONGEST : goal.returns-then-hyper-gt-LONGEST
returns-then-hyper-gt-LONGEST c = let tasks = c.args.windowed.tasks in
    let k = c.loop-task.task-index in
    let r = rw (get_or-take tasks.count tasks.list k no_task (omega arith)) at c.lcm-hyper.ensures in
    let e = lcm_turn tasks _ _ _ c.loop-task.invariant.0 r in
    sym (above_early tasks c.args.windowed.windowed (k + 1) (omega arith) (rw (← e) c.if-hyper-gt-LONGEST.true))
