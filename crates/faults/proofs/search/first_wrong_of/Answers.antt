-- `search::first_wrong_of` meets its contract: no instance below this one is wrong.
use mathlib.Core.Path.{refl, sym, ◌∙◌}
use mathlib.Core.List.{[], ◌∷◌}
use native.Mathlib.Omega.{arith}
use Rattle.std.specs.Prelude.{Some}
use Rattle.form.specs.Records.{use_of}
use Rattle.form.proofs.Walks.{walked_turn, walked_stopped}
use Rattle.faults.proofs.Viewed.{has_each, place_is}
use Rattle.faults.proofs.Searched.{one_passed, one_found, all_walked}
use Rattle.faults.proofs.search.first_wrong_of.Goals as goal

pub is_wrong-requires : goal.is_wrong-requires
is_wrong-requires g c = c.requires.0 _ _ (has_each c.args.view.now c.args.side c.requires.1 c.records-records.ensures c.loop-instance-test.true)

pub start_of-requires : goal.start_of-requires
start_of-requires g c = let has = has_each c.args.view.now c.args.side c.requires.1 c.records-records.ensures c.loop-instance-test.true in
    let at = place_is c.args.view.now c.args.side _ _ has in
    (omega (arith, c.requires.1, c.args.view.now.accepted.now.fits.few_tasks), omega (arith, at.0), omega (arith, at.0, at.2))

pub returns-then-is_wrong : goal.returns-then-is_wrong
returns-then-is_wrong g c = λ wrong J.
    let has = has_each c.args.view.now c.args.side c.requires.1 c.records-records.ensures c.loop-instance-test.true in
    let at = place_is c.args.view.now c.args.side _ _ has in
    all_walked _ _ c.args.side c.args.view.now.signal c.args.task
    (walked_stopped _ (λ i. use_of c.args.side c.args.view.now.signal c.args.task i ∷ []) _ _ _ (Some c.start_of.result) (λ x. refl) c.loop-instance-test.true
    (walked_turn _ (λ i. use_of c.args.side c.args.view.now.signal c.args.task i ∷ []) _ _ (c.loop-instance.invariant wrong J)
    (one_found _ _ _ (sym (J _ _ _ has c.is_wrong.ensures) ∙ c.if-is_wrong.true) (omega (arith, c.start_of.ensures, at.0)))))
    c.records-records.ensures

pub loop-instance-preserved : goal.loop-instance-preserved
loop-instance-preserved g c = λ wrong J.
    let has = has_each c.args.view.now c.args.side c.requires.1 c.records-records.ensures c.loop-instance-test.true in
    walked_turn _ (λ i. use_of c.args.side c.args.view.now.signal c.args.task i ∷ []) _ _ (c.loop-instance.invariant wrong J) (one_passed _ _ _ (sym (J _ _ _ has c.is_wrong.ensures) ∙ c.if-is_wrong.false))
