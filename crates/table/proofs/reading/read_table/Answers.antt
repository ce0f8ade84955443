use Rattle.std.proofs.Common.{ap}
use Rattle.sections.proofs.Windowed.{read_windowed}
use Rattle.records.specs.Said.{end_said}
use Rattle.table.proofs.Read.{read_refused, read_judged}
use Rattle.table.proofs.reading.read_table.Goals as goal

-- of tasks that were read
pub invariant_of-judge : goal.invariant_of-judge
invariant_of-judge c = record { few = c.read_tasks-tasks_read.ensures.few; windowed = read_windowed _ c.read_tasks-tasks_read.result c.read_tasks-tasks_read.ensures.is }

pub returns-in-Err : goal.returns-in-Err
returns-in-Err c = read_refused _ c.read_tasks-tasks_read.result c.read_signals-signals_read.result c.read_accesses-accesses_read.result c.read_end.result
    c.read_tasks-tasks_read.ensures.is c.read_signals-signals_read.ensures.is c.read_accesses-accesses_read.ensures.is c.read_end.ensures
    _ c.in-Err.is

pub returns-in-Ok : goal.returns-in-Ok
returns-in-Ok c = read_judged _ c.read_tasks-tasks_read.result c.read_signals-signals_read.result c.read_accesses-accesses_read.result c.read_end.result
    c.read_tasks-tasks_read.ensures.is c.read_signals-signals_read.ensures.is c.read_accesses-accesses_read.ensures.is c.read_end.ensures
    _ _ c.judge-hyper.result (ap end_said c.in-Ok.is) c.read_grid.ensures c.judge-hyper.ensures
