-- `free::first_free` meets its contract.
use Rattle.elements.proofs.Passed.{free_taken}
use Rattle.elements.proofs.free.first_free.Goals as goal

pub returns : goal.returns
returns c = free_taken c.args.held.now c.args.tick c.told-held c.first_unheld.ensures c.unwrap_or.ensures
