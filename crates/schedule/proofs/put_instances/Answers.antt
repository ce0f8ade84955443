-- `put_instances` meets its contract: the instances below i are put, each after `first` and those before it.
use mathlib.Core.Path.{◌≡◌, refl, ◌∙◌}
use mathlib.Core.List.{[], ◌∷◌}
use Prim.Native.Nat.{◌+◌}
use native.Mathlib.Omega.{arith}
use Rattle.form.specs.Records.{use_of}
use Rattle.form.proofs.Walks.{walked_none, walked_turn}
use Rattle.schedule.proofs.Puts.{use_put_lem, use_length}
use Rattle.schedule.proofs.put_instances.Goals as goal

pub loop-i-init : goal.loop-i-init
loop-i-init c = let none : c.args.first + 0 ≡ c.args.first = omega arith in
    (refl, refl, λ counts side e. rw none (walked_none _ _ _))

pub loop-i-preserved : goal.loop-i-preserved
loop-i-preserved c = let i = c.loop-i.invariant in
    let more : c.args.first + c.loop-i.i + 1 ≡ c.args.first + (c.loop-i.i + 1) = omega arith in (
      refl,
      use_length _ _ _ _ _ _ _ c.put_use.ensures ∙ i.1,
      λ counts side e. rw (← more) (walked_turn _ (λ i. use_of side _ _ i ∷ []) _ _ (i.2 counts side e) (use_put_lem _ _ side _ _ _ _ e refl c.put_use.ensures)),
    )

pub returns-clause-is : goal.returns-clause-is
returns-clause-is c = let e : c.loop-i.i ≡ c.args.records = omega arith in
    λ counts side m. rw e at (c.loop-i.invariant.2 counts side m)
