-- `view::View::keep_all` meets its contract: the values of the tasks below this one are kept.
use Rattle.rules.specs.Values.{carried}
use Rattle.faults.proofs.Viewed.{until_of_lem}
use Rattle.faults.proofs.Numbered.{kept_none}
use Rattle.faults.proofs.view.View.keep_all.Goals as goal

pub loop-task-init : goal.loop-task-init
loop-task-init c = let v = c.args.self.now in
    kept_none v c.args.ticks.now c.told-ticks (until_of_lem v (carried _) v.listed c.live_until.ensures)
