-- `search::first_fault` meets its contract: no record of a signal below this one is wrong, and its own begin at `next`.
use mathlib.Core.Path.{◌≡◌, refl, sym, ◌∙◌}
use native.Mathlib.Omega.{arith}
use Rattle.form.proofs.Walks.{walked_turn, walked_stopped}
use Rattle.faults.proofs.Searched.{search_says}
use Rattle.faults.proofs.search.first_fault.Goals as goal

pub returns-in-Some : goal.returns-in-Some
returns-in-Some c = search_says c.args.accepted.now _ c.args.side
    (walked_stopped _ _ _ _ _ _ (λ x. refl) c.loop-signal-test.true
    (walked_turn _ _ _ _ c.loop-signal.invariant.1 (sym c.in-Some.is ∙ c.signal_fault.ensures)))

pub returns : goal.returns
returns c = let e : c.loop-signal.signal ≡ c.args.accepted.now.signals.count = omega arith in
    search_says c.args.accepted.now _ c.args.side (rw e at c.loop-signal.invariant.1)
