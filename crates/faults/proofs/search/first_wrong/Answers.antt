-- `search::first_wrong` meets its contract: no record of a task below this one is wrong.
use mathlib.Core.Path.{refl, sym, ◌∙◌}
use Rattle.form.proofs.Walks.{walked_turn, walked_stopped}
use Rattle.faults.specs.Faults.{side_of}
use Rattle.faults.proofs.search.first_wrong.Goals as goal

pub returns-in-Some : goal.returns-in-Some
unfolding side_of
returns-in-Some g c = λ wrong J. walked_stopped _ _ _ _ _ _ (λ x. refl) c.loop-task-test.true
    (walked_turn _ _ _ _ (c.loop-task.invariant wrong J) (sym c.in-Some.is ∙ c.first_wrong_of.ensures wrong J))
