-- Each task's test, one after the other.
use Rattle.std.proofs.Common.{◌≡◌, true, false, refl, arith, rules, tests}
use Rattle.std.proofs.lemmas.Iterator.{cases_from_all, YieldsList-from_range}
use Rattle.rules.specs.Table.{most_tasks}
use Rattle.state.specs.Fitness.{task_fits, tasks_fit}
use Rattle.state.proofs.Folds.{all_below}
use Rattle.state.proofs.tasks_fit.Goals as goal

pub returns : goal.returns
unfolding tasks_fit
returns c = let p = task_fits c.args.numbers.now in
    all_below _ p most_tasks
    (cases_from_all _ _ _ (λ t. p t ≡ true) (λ t. p t ≡ false) c.all.ensures.ran (YieldsList-from_range 0 most_tasks most_tasks refl (omega arith)) (λ x q k. search (rules, tests)) (λ x q k. search (rules, tests)))
