-- `view::View::keep_task` meets its contract: the values of the earlier tasks and of the instances below this one are kept.
use native.Mathlib.Omega.{arith}
use Rattle.rules.specs.declared.Side.{Side}
use Rattle.faults.proofs.Viewed.{has_each}
use Rattle.faults.proofs.Numbered.{writers_asked, number_is, room, numbers_more, kept_more, kept_at}
use Rattle.faults.proofs.view.View.keep_task.Goals as goal

pub writer-first-requires : goal.writer-first-requires
writer-first-requires c = writers_asked c.args.self.now _ c.requires.0

pub life_end-requires : goal.life_end-requires
life_end-requires c = has_each c.args.self.now Side.Writers c.requires.0 c.records-records.ensures c.loop-instance-test.true

pub bounds-ticks-first : goal.bounds-ticks-first
bounds-ticks-first c = omega (arith, room c.args.self.now _ c.writer-first.ensures c.requires.0 c.records-records.ensures _ c.loop-instance-test.true)

pub loop-instance-preserved : goal.loop-instance-preserved
loop-instance-preserved c = let v = c.args.self.now in
    let has = has_each v Side.Writers c.requires.0 c.records-records.ensures c.loop-instance-test.true in
    let number = number_is v _ c.writer-first.ensures c.requires.0 in
    kept_more v c.loop-instance.ticks c.args.task c.loop-instance.instance has (omega (arith, number)) c.life_end.ensures c.loop-instance.invariant

pub returns : goal.returns
returns c = let v = c.args.self.now in
    kept_at v c.loop-instance.ticks (omega (arith, c.loop-instance-test.false, c.records-records.ensures, numbers_more v c.args.task)) c.loop-instance.invariant
