use mathlib.Core.Path.{◌≡◌}
use Rattle.theory.specs.Chosen.{first_use}
use Rattle.elements.specs.Pass.{pass_table}
use Rattle.plan.specs.Uses.{uses_planned, counts_planned}
use Rattle.plan.proofs.uses.plan_uses.Given as goal

abbrev pub invariant-loop-s : goal.invariant-loop-s
invariant-loop-s l = (l.next ≡ first_use (pass_table l.accepted.tasks l.accepted.grid) l.s) × (l.counts ≡ counts_planned (pass_table l.accepted.tasks l.accepted.grid) l.initial.counts l.initial.uses l.s) × (l.uses ≡ uses_planned (pass_table l.accepted.tasks l.accepted.grid) l.initial.uses l.s)
