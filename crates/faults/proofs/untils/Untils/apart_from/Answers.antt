-- `untils::Untils::apart_from` meets its contract: no instance below this one clashes.
use mathlib.Core.Path.{ap, ◌∙◌}
use mathlib.Core.Bool.{not}
use native.Mathlib.Omega.{arith}
use borrow.Author.Count.{below_none, below_more}
use Rattle.faults.specs.Faults.{apart_from}
use Rattle.faults.proofs.Clashing.{every_fails, every_holds, same_clash}
use Rattle.faults.proofs.untils.Untils.apart_from.Goals as goal

pub loop-instance-init : goal.loop-instance-init
loop-instance-init c = below_none _

pub returns-then-clashes : goal.returns-then-clashes
unfolding apart_from
returns-then-clashes c = every_fails _ _ _ c.loop-instance-test.true (ap not (same_clash _ c.clashes.ensures c.written.ensures ∙ c.if-clashes.true))

pub loop-instance-preserved : goal.loop-instance-preserved
loop-instance-preserved c = below_more _ _ c.loop-instance.invariant (ap not (same_clash _ c.clashes.ensures c.written.ensures ∙ c.if-clashes.false))

pub returns : goal.returns
unfolding apart_from
returns c = every_holds _ _ (λ j l. c.loop-instance.invariant j (omega arith))
