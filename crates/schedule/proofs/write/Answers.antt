-- `write` meets its contract: all records, and EN after them.
use mathlib.Core.Path.{◌≡◌, refl, ap}
use Prim.Native.Nat.{ℕ, ◌+◌, ◌*◌, ◌≤◌}
use mathlib.Core.List.{List}
use native.Mathlib.Omega.{arith}
use Rattle.rules.specs.Table.{most_uses}
use Rattle.rules.specs.Bytes.{schedule_length}
use Rattle.rules.specs.Reading.{Grid}
use Rattle.accept.specs.Accepts.{its_table}
use Rattle.accept.specs.declared.Accepted.{Accepted}
use Rattle.form.specs.Records.{Instances}
use Rattle.form.proofs.Parted.{by_periods}
use Rattle.schedule.specs.Writing.{uses_below}
use Rattle.schedule.proofs.Wrote.{length_by_uses, uses_is, written_is}
use Rattle.schedule.proofs.write.Goals as goal

-- the uses are few enough, and there is room for all records and EN
few : (a : Accepted) (instances : List ℕ) (n : ℕ) {g : Grid} {t : ℕ} → schedule_length (its_table a) ≤ n → Instances a.tasks a.hyper instances → g ≡ a.grid → t ≡ a.tasks.count
    → (uses_below g instances t a.signals.count ≤ most_uses) × (4 * a.signals.count + 7 * uses_below g instances t a.signals.count + 2 ≤ n)
few a instances n room I p q =
    let own = by_periods a.tasks a.signals a.grid a.own in
    let u = uses_is a.tasks a.signals a.grid a.hyper instances own I _ refl in
    let l = length_by_uses a.tasks a.signals a.grid a.hyper instances own I _ refl in
    rw (p, q) (omega (arith, a.fits.few_uses), omega arith)

pub put_signals-used-requires : goal.put_signals-used-requires
put_signals-used-requires c = let u = c.new-users.ensures in let a = c.args.accepted.now in
    let f = few a _ _ c.requires u.instances u.grid u.tasks in
    record { few = (omega (arith, a.fits.few_signals), f.0); room = omega arith }

pub overflow_mul-used : goal.overflow_mul-used
overflow_mul-used c = let u = c.new-users.ensures in let a = c.args.accepted.now in
    record { fits = omega (arith, few a _ _ c.requires u.instances u.grid u.tasks, c.put_signals-used.ensures.many) }

pub overflow_add-signals : goal.overflow_add-signals
overflow_add-signals c = let u = c.new-users.ensures in let a = c.args.accepted.now in
    record { fits = omega (arith, few a _ _ c.requires u.instances u.grid u.tasks, c.put_signals-used.ensures.many, a.fits.few_signals) }

pub put_bytes-requires : goal.put_bytes-requires
put_bytes-requires c = let u = c.new-users.ensures in let a = c.args.accepted.now in
    omega (arith, few a _ _ c.requires u.instances u.grid u.tasks, c.put_signals-used.ensures.many)

pub returns : goal.returns
returns c = let u = c.new-users.ensures in let a = c.args.accepted.now in
    let own = by_periods a.tasks a.signals a.grid a.own in
    written_is a.tasks a.signals _ _ _ own u.instances _ refl _ _ _ _ _ _ u.grid u.tasks c.requires c.put_signals-used.ensures.is
    (ap (λ u. 4 * a.signals.count + 7 * u) c.put_signals-used.ensures.many) c.put_bytes.ensures
