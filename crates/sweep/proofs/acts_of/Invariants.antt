use Rattle.sweep.specs.Pass.{AreActs}
use Rattle.sweep.proofs.acts_of.Given as goal

abbrev pub invariant-loop-k : goal.invariant-loop-k
invariant-loop-k l = AreActs l.accepted.grid l.signal l.k l.acts
