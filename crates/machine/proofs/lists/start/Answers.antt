-- The windows and the signals, by the instances of the table's tasks, then tick 0 opens.
use Rattle.machine.specs.Started.{given_of}
use Rattle.machine.proofs.Counted.{instances_as, room_by, started_is}
use Rattle.machine.proofs.lists.start.Goals as goal

pub load_signals-requires : goal.load_signals-requires
load_signals-requires c = let g = given_of c.args.accepted.now c.args.schedule.now in let u = c.new-users in
    rw (u.ensures.grid, u.ensures.tasks) (room_by g c.requires u.result.instances (instances_as g c.requires u.result.instances u.ensures.instances))

pub returns : goal.returns
returns c = let g = given_of c.args.accepted.now c.args.schedule.now in let u = c.new-users in
    started_is g _ _ _ _ _ _ _ (instances_as g c.requires u.result.instances u.ensures.instances) c.clear.ensures c.load_windows.ensures (rw (u.ensures.grid, u.ensures.tasks) at c.load_signals.ensures) c.release_all.ensures c.open_all.ensures
