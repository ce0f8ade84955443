-- `forms::instance_records` meets its contract: the instances below i are walked, or one of them is wrong and none after it counts.
use mathlib.Core.Path.{refl}
use mathlib.Core.List.{[], ◌∷◌}
use Rattle.std.proofs.lemmas.Result.{err_from_is_err_and}
use Rattle.form.specs.Records.{use_of}
use Rattle.form.proofs.Walks.{walked_none, walked_turn, walked_stopped}
use Rattle.form.proofs.Steps.{use_walked}
use Rattle.form.proofs.forms.instance_records.Goals as goal

pub loop-i-init : goal.loop-i-init
loop-i-init c = λ side e. walked_none _ _ _

pub loop-i-preserved : goal.loop-i-preserved
loop-i-preserved c = λ side e. walked_turn _ (λ i. use_of side _ _ i ∷ []) _ _ (c.loop-i.invariant side e) (use_walked _ side _ _ _ _ e c.use_record.ensures c.in_ok-place.was)

pub returns-in_err-place : goal.returns-in_err-place
returns-in_err-place c = λ side e. let p = err_from_is_err_and c.from_residual.result c.from_residual.ensures.1 in
    rw (p.1, p.2)
    (walked_stopped _ (λ i. use_of side _ _ i ∷ []) _ _ _ _ (λ x. refl) c.loop-i-test.true
    (walked_turn _ (λ i. use_of side _ _ i ∷ []) _ _ (c.loop-i.invariant side e) (use_walked _ side _ _ _ _ e c.use_record.ensures c.in_err-place.was)))
