-- `sharing::clashes` meets its contract.
use Rattle.std.proofs.Common.{arith}
use Rattle.std.proofs.lemmas.Grind.{common_steps}
use Rattle.rules.specs.Words.{when}
use Rattle.faults.specs.Faults.{clashing}
use Rattle.faults.proofs.sharing.clashes.Goals as goal

pub returns-then-a-b-2 : goal.returns-then-a-b-2
unfolding clashing when
returns-then-a-b-2 c = grind (arith, common_steps)

pub returns-else-a-b-2 : goal.returns-else-a-b-2
unfolding clashing when
returns-else-a-b-2 c = grind (arith, common_steps)
