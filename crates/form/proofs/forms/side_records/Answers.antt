-- `forms::side_records` meets its contract: the tasks below k are walked, or a record is wrong and none after it counts.
use mathlib.Core.Path.{refl}
use Rattle.std.proofs.lemmas.Result.{err_from_is_err_and}
use Rattle.form.specs.Records.{side_parts}
use Rattle.form.proofs.Walks.{walked_none, walked_turn, walked_stopped}
use Rattle.form.proofs.Steps.{task_walked}
use Rattle.form.proofs.forms.side_records.Goals as goal

pub loop-k-init : goal.loop-k-init
unfolding side_parts
loop-k-init c = walked_none _ _ _

pub returns-in_err-place : goal.returns-in_err-place
unfolding side_parts
returns-in_err-place c = let p = err_from_is_err_and c.from_residual.result c.from_residual.ensures.1 in
    rw (p.1, p.2)
    (walked_stopped _ _ _ _ _ _ (λ x. refl) c.loop-k-test.true
    (walked_turn _ _ _ _ c.loop-k.invariant (task_walked _ _ _ _ _ _ _ c.records-records.ensures (c.instance_records.ensures c.args.side c.mark_of-mark.ensures) c.in_err-place.was)))

pub loop-k-preserved : goal.loop-k-preserved
unfolding side_parts
loop-k-preserved c = walked_turn _ _ _ _ c.loop-k.invariant (task_walked _ _ _ _ _ _ _ c.records-records.ensures (c.instance_records.ensures c.args.side c.mark_of-mark.ensures) c.in_ok-place.was)
