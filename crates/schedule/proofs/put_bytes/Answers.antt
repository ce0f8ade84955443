-- `put_bytes` meets its contract: the copy is a run of stores.
use Rattle.schedule.proofs.Puts.{copied}
use Rattle.schedule.proofs.put_bytes.Goals as goal

pub returns : goal.returns
returns c = copied c.args.out.now c.args.record.now _ c.args.at c.copy_from_slice.ensures.after c.requires
