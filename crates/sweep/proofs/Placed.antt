-- The places of a signal's elements, from the sums of the records of the tasks before. Assumes nothing.
use mathlib.Core.Path.{◌≡◌, refl, ap, ◌∙◌}
use Prim.Native.Nat.{ℕ, zero, suc, ◌+◌, ◌*◌, ◌-◌, ◌≤◌, zero-le}
use native.Mathlib.Omega.{arith}
use Rattle.rules.specs.Words.{total}
use Rattle.rules.specs.Windows.{Table}
use Rattle.rules.specs.Table.{longest}
use Rattle.rules.specs.Bytes.{writers_below, readers_below, size_of, start_of}
use Rattle.accept.specs.Accepts.{its_table}
use Rattle.accept.specs.declared.Accepted.{Accepted}
use Rattle.rules.specs.declared.Side.{Side}
use Rattle.form.specs.declared.users.Users.{Users}
use Rattle.form.specs.Records.{Instances, users_below, Starts}
use Rattle.form.proofs.Parted.{by_periods}
use Rattle.form.proofs.Steps.{users_few}
use Rattle.form.proofs.Tables.{writers_is, readers_is}
use Rattle.sweep.specs.Pass.{AreUsers, ArePlaces}
use Rattle.sweep.specs.declared.Places.{Places}

-- no task has more records of a signal than a hyper-period has ticks
pub below_few : (u : Users) (side : Side) (s n : ℕ) → n ≤ u.tasks → users_below u.grid.now u.instances side s n ≤ n * longest
unfolding users_below total
below_few u side s zero h = zero-le
below_few u side s (suc n) h = omega (arith, below_few u side s n (omega arith), users_few u.grid.now u.instances side s n refl (u.short n (omega arith)))

-- what `Users::new` promises
pub users_are : {a : Accepted} {u : Users} → u.grid.now ≡ a.grid → u.tasks ≡ a.tasks.count → Instances a.tasks a.hyper u.instances → AreUsers a u
users_are g t i = record { grid = g; tasks = t; instances = i }

module _ (a : Accepted) (u : Users) (U : AreUsers a u) (s : ℕ) where
  abbrev tab : Table
  tab = its_table a

  written : (n : ℕ) → n ≤ u.tasks → users_below u.grid.now u.instances Side.Writers s n ≡ writers_below tab s n
  written n h = ap (λ g. users_below g u.instances Side.Writers s n) U.grid ∙ writers_is a.tasks a.signals a.grid a.hyper u.instances (by_periods a.tasks a.signals a.grid a.own) U.instances s n (omega (arith, U.tasks))

  read : (n : ℕ) → n ≤ u.tasks → users_below u.grid.now u.instances Side.Readers s n ≡ readers_below tab s n
  read n h = ap (λ g. users_below g u.instances Side.Readers s n) U.grid ∙ readers_is a.tasks a.signals a.grid a.hyper u.instances (by_periods a.tasks a.signals a.grid a.own) U.instances s n (omega (arith, U.tasks))

  all_written : users_below u.grid.now u.instances Side.Writers s u.tasks ≡ writers_below tab s a.tasks.count
  all_written = written u.tasks (omega arith) ∙ ap (writers_below tab s) U.tasks

  all_read : users_below u.grid.now u.instances Side.Readers s u.tasks ≡ readers_below tab s a.tasks.count
  all_read = read u.tasks (omega arith) ∙ ap (readers_below tab s) U.tasks

  -- the writers' records after the signal's own, the readers' after the writers'
  pub located : (start middle end : ℕ) (places : Places) → start ≡ total (size_of tab) s
      → Starts u.grid.now u.instances 7 Side.Writers s (start + 4 + 6) u.tasks places.writers → middle ≡ start + 4 + 6 + 7 * users_below u.grid.now u.instances Side.Writers s u.tasks
      → Starts u.grid.now u.instances 7 Side.Readers s middle u.tasks places.readers → end ≡ middle + 7 * users_below u.grid.now u.instances Side.Readers s u.tasks
      → ArePlaces a s places × (end - 6 ≡ total (size_of tab) (suc s))
  unfolding start_of size_of total
  located start middle end places e W m R n = (
    record {
      readers = λ k h. omega (arith, R k (omega (arith, U.tasks)), read k (omega (arith, U.tasks)), e, m, all_written);
      writers = λ k h. omega (arith, W k (omega (arith, U.tasks)), written k (omega (arith, U.tasks)), e);
    },
    omega (arith, e, m, n, all_written, all_read),
  )
