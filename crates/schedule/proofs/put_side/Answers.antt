-- `put_side` meets its contract: the tasks below k have put their records.
use mathlib.Core.Path.{◌≡◌, refl}
use native.Mathlib.Omega.{arith}
use Rattle.form.specs.Records.{side_parts}
use Rattle.form.proofs.Walks.{walked_none, walked_turn}
use Rattle.form.proofs.Steps.{users_few, users_none, users_more}
use Rattle.schedule.proofs.Puts.{task_put}
use Rattle.schedule.proofs.put_side.Goals as goal

pub loop-k-init : goal.loop-k-init
unfolding side_parts
loop-k-init c = let a = c.args in
    (omega (arith, users_none a.users.now.grid.now a.users.now.instances a.side a.signal), refl, λ counts. walked_none _ _ _)

pub put_instances-used-requires : goal.put_instances-used-requires
put_instances-used-requires c = let a = c.args in
    let u = a.users.now in
    let taken = c.loop-k-test.true in
    let m = users_more u.grid.now u.instances a.side a.signal c.loop-k.k u.tasks taken in (
      omega arith,
      omega arith,
      users_few _ _ _ _ _ c.records-records.ensures (u.short _ taken),
      omega (arith, c.records-records.ensures),
      omega (arith, c.records-records.ensures),
    )

pub loop-k-preserved : goal.loop-k-preserved
unfolding side_parts
loop-k-preserved c = let a = c.args in
    let u = a.users.now in
    let m = users_more u.grid.now u.instances a.side a.signal c.loop-k.k u.tasks c.loop-k-test.true in (
      omega (arith, c.put_instances-used.ensures.many, c.records-records.ensures),
      omega arith,
      λ counts. walked_turn _ _ _ _ (c.loop-k.invariant.2 counts) (task_put _ _ _ _ _ _ _ _ c.records-records.ensures (c.put_instances-used.ensures.is counts a.side c.mark_of-mark.ensures)),
    )

pub returns-clause-is : goal.returns-clause-is
returns-clause-is c = let e : c.loop-k.k ≡ c.args.users.now.tasks = omega arith in
    λ counts. rw e at (c.loop-k.invariant.2 counts)
