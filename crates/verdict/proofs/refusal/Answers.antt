-- `verdict::refusal` meets its contract: 21 at the first fault of the readers, else 22 at that of the writers, else done.
use mathlib.Core.Path.{◌∙◌}
use Rattle.faults.proofs.Searched.{nowhere}
use Rattle.verdict.proofs.Formed.{wrong_says, shared_says}
use Rattle.verdict.proofs.refusal.Goals as goal

pub returns-in-Some : goal.returns-in-Some
returns-in-Some c = wrong_says c.args.accepted.now _ c.requires c.first_fault.ensures c.in-Some.is

pub returns-in-Some-first_fault : goal.returns-in-Some-first_fault
returns-in-Some-first_fault c = let a = c.args.accepted.now in
    shared_says a _ c.requires c.first_fault-2.ensures c.in-Some-first_fault.is ∙ wrong_says a _ c.requires c.first_fault.ensures (nowhere _ c.in_default.not-Some)

pub returns : goal.returns
returns c = let a = c.args.accepted.now in
    shared_says a _ c.requires c.first_fault-2.ensures (nowhere _ c.in_default-first_fault.not-Some) ∙ wrong_says a _ c.requires c.first_fault.ensures (nowhere _ c.in_default.not-Some)
