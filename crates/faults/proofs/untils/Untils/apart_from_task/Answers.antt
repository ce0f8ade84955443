-- `untils::Untils::apart_from_task` meets its contract.
use mathlib.Core.Path.{sym}
use native.Mathlib.Omega.{arith}
use Rattle.rules.specs.declared.Side.{Side}
use Rattle.faults.proofs.Viewed.{has_each}
use Rattle.faults.proofs.Clashing.{apart_is}
use Rattle.faults.proofs.Numbered.{writers_asked, in_reach}
use Rattle.faults.proofs.untils.Untils.apart_from_task.Goals as goal

pub writer-requires : goal.writer-requires
writer-requires c = writers_asked c.args.self.now.view _ c.requires

pub apart_from-requires : goal.apart_from-requires
apart_from-requires c = λ i l. let v = c.args.self.now.view in
    in_reach v _ c.writer.ensures i (has_each v Side.Writers c.requires c.records-records.ensures l)

pub returns : goal.returns
returns c = sym (apart_is c.args.self.now _ c.requires c.writer.ensures _ (omega (arith, c.records-records.ensures)) c.records-records.ensures c.apart_from.ensures)
