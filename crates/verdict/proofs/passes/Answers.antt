-- `verdict::passes` meets its contract: an accepted table and right records are what the pass over all signals asks for.
use Rattle.events.proofs.Alone.{fits_tasks, hyper_tasks}
use Rattle.sweep.proofs.Accepts.{inspects_all}
use Rattle.verdict.proofs.Formed.{counted, whole}
use Rattle.verdict.proofs.passes.Goals as goal

pub order_events-events-requires : goal.order_events-events-requires
order_events-events-requires c = let a = c.args.accepted.now in (fits_tasks a, hyper_tasks a)

pub signals_pass-requires : goal.signals_pass-requires
signals_pass-requires c = let a = c.args.accepted.now in
    rw c.numbers-turns.ensures (inspects_all a _ (counted a _ c.requires) (whole a _ c.requires) c.order_events-events.ensures)
