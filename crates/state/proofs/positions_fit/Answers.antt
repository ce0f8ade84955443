-- The positions stand together.
use Rattle.std.proofs.Common.{◌≡◌, true, ◌&&◌, ap, ◌∙◌, arith, rules, tests, get_or, length}
use Rattle.std.proofs.lemmas.Iterator.{YieldsList-from_slice}
use Rattle.std.proofs.lemmas.Iterator.Consumers.{fold_from_yields_List}
use Rattle.std.proofs.lemmas.List.Edits.{get_or-between, length-between}
use Rattle.std.specs.List.{between}
use Rattle.rules.specs.Words.{every}
use Rattle.state.specs.Parts.{uses, positions, tick}
use Rattle.state.specs.Fitness.{in_block, positions_fit}
use Rattle.state.proofs.Folds.{folded, every_same}
use Rattle.state.proofs.positions_fit.Goals as goal

pub returns : goal.returns
unfolding positions_fit
returns c = let positions_now = between uses tick c.args.numbers.now in
    let length_is : length positions_now ≡ positions = omega (arith, length-between c.args.numbers.now uses tick (omega arith)) in
    fold_from_yields_List _ (λ ok x. ok && in_block x) true _ c.fold.ensures.ran (YieldsList-from_slice positions_now c.iter.ensures.rest) (λ ok x b q k. search (rules, tests))
    ∙ folded in_block true positions_now
    ∙ ap (λ m. every m (λ k. in_block (get_or positions_now k 0))) length_is
    ∙ every_same positions _ _ (λ k h. ap in_block (get_or-between c.args.numbers.now uses tick k 0 (omega arith)))
