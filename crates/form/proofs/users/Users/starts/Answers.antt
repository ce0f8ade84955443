-- `Users::starts` meets its contract: the tasks below k have their places, and the next one is known.
use mathlib.Core.Path.{refl, ◌∙◌}
use Prim.Native.Nat.{◌+◌, ◌*◌}
use native.Mathlib.Omega.{arith}
use borrow.Author.Count.{below_none}
use lib.ListN.{length-set}
use Rattle.form.specs.Records.{users_below}
use Rattle.form.proofs.Steps.{users_none, start_more, stored_more}
use Rattle.form.proofs.users.Users.starts.Goals as goal

pub loop-k-init : goal.loop-k-init
loop-k-init g c = let u = c.args.self.now in
    (refl, below_none _, rw (users_none u.grid.now u.instances c.args.side c.args.signal) (omega arith))

pub overflow_mul-next : goal.overflow_mul-next
overflow_mul-next g c = let u = c.args.self.now in
    let m = start_more u.grid.now u.instances g.row.STEP c.args.next.now _ c.args.side c.args.signal c.loop-k.k u.tasks c.loop-k-test.true c.records.ensures c.requires.1 in
    record { fits = omega arith }

pub overflow_add-next : goal.overflow_add-next
overflow_add-next g c = let u = c.args.self.now in
    let m = start_more u.grid.now u.instances g.row.STEP c.args.next.now _ c.args.side c.args.signal c.loop-k.k u.tasks c.loop-k-test.true c.records.ensures c.requires.1 in
    record { fits = omega (arith, c.loop-k.invariant.2) }

pub loop-k-preserved : goal.loop-k-preserved
loop-k-preserved g c = let u = c.args.self.now in
    let l = c.loop-k in
    let m = start_more u.grid.now u.instances g.row.STEP c.args.next.now _ c.args.side c.args.signal l.k u.tasks c.loop-k-test.true c.records.ensures c.requires.1 in (
      length-set l.starts l.k l.next ∙ l.invariant.0,
      stored_more l.starts l.k l.next (λ k. c.args.next.now + g.row.STEP * users_below u.grid.now u.instances c.args.side c.args.signal k) (omega (arith, u.few, l.invariant.0)) l.invariant.2 l.invariant.1,
      omega (arith, m.0, l.invariant.2),
    )
