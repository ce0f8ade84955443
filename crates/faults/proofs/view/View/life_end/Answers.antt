-- `view::View::life_end` meets its contract.
use Rattle.rules.specs.Values.{by}
use Rattle.faults.proofs.Viewed.{is_written, until_of_lem}
use Rattle.faults.proofs.view.View.life_end.Goals as goal

pub returns : goal.returns
returns c = let v = c.args.self.now in
    until_of_lem v (by v.signal c.args.task c.args.instance) (is_written v _ _ c.requires) c.live_until.ensures
