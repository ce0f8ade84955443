-- Each signal's test, of both accesses.
use mathlib.Core.Path.{ap₂}
use borrow.Author.Tests.{le-leb}
use Rattle.std.proofs.Common.{◌≡◌, ℕ, Bool, true, ◌&&◌, ◌||◌, ◌+◌, leb, eqb, refl, ap, ◌∙◌, arith, rules, tests}
use Rattle.std.proofs.lemmas.Iterator.{YieldsList-from_range}
use Rattle.std.proofs.lemmas.Iterator.Consumers.{fold_from_yields_List}
use Rattle.rules.specs.Table.{most_signals, most_uses}
use Rattle.state.specs.Parts.{at, none, cell, counts, reads, writes}
use Rattle.state.specs.Fitness.{access_fits, task_fits}
use Rattle.state.proofs.Folds.{folded_below, every_same}
use Rattle.state.proofs.task_fits.Goals as goal

pub returns : goal.returns
unfolding task_fits
returns c = let n = c.args.numbers.now in let t = c.args.task in let m = at n (counts + t) in
    let fits : ℕ → Bool = λ first. eqb first none || leb first c.last_first-last.result in
    let each : ℕ → Bool = λ s. fits (at n (cell reads t s)) && fits (at n (cell writes t s)) in
    let by_last : (first : ℕ) → fits first ≡ access_fits m first = λ first. ap (λ b. eqb first none || b) (c.last_first-last.ensures first) in
    folded_below each most_signals
    (fold_from_yields_List _ (λ ok s. ok && each s) true _ c.fold.ensures.ran (YieldsList-from_range 0 most_signals most_signals refl (omega arith)) (λ ok s b q k. search (rules, tests)))
    ∙ every_same most_signals each (λ s. access_fits m (at n (cell reads t s)) && access_fits m (at n (cell writes t s))) (λ s h. ap₂ ◌&&◌ (by_last (at n (cell reads t s))) (by_last (at n (cell writes t s))))
    ∙ (rw (le-leb m most_uses (omega arith)) refl)
