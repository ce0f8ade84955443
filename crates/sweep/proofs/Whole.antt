-- The check of all signals, one after the other. Assumes nothing.
use mathlib.Core.Bool.{Bool, true, false}
use mathlib.Core.List.{List}
use mathlib.Core.Path.{◌≡◌, refl, sym, ◌∙◌}
use Prim.Native.Nat.{ℕ, ◌+◌, ◌≤◌, ◌<◌}
use native.Mathlib.Numerals.{add-one}
use native.Mathlib.Omega.{arith}
use lib.ListN.{length}
use Rattle.rules.specs.Words.{total, every}
use Rattle.rules.specs.Windows.{Table}
use Rattle.rules.specs.Bytes.{size_of, schedule_length, schedule_in}
use Rattle.theory.specs.Sweep.{events, sweep}
use Rattle.theory.proofs.Sums.{length_is}
use Rattle.theory.proofs.Tests.{and_is, no_test, not_both}
use Rattle.theory.proofs.Check.{every_at}
use Rattle.events.specs.Order.{tasks_table}
use Rattle.accept.specs.Accepts.{its_table}
use Rattle.accept.specs.declared.Accepted.{Accepted}
use Rattle.sweep.specs.Pass.{longest_bytes, ArePlaces, Low, Inspects, all_swept, InspectsAll}
use Rattle.sweep.specs.declared.Places.{Places}
use Rattle.sweep.proofs.Inspected.{total_within}

module _ (a : Accepted) where
  -- the records of a signal end within the longest schedule
  pub start_low : (s : ℕ) → s < a.signals.count → total (size_of (its_table a)) s ≤ longest_bytes
  unfolding schedule_length
  start_low s l = omega (arith, total_within (size_of (its_table a)) a.signals.count s l, length_is (its_table a), a.fits.few_signals, a.fits.few_uses)

  -- of the table's own signals the rest need not be asked
  pub own_all : {list bytes : List ℕ} → list ≡ events (tasks_table a.tasks) → total (size_of (its_table a)) a.signals.count ≤ length bytes → ((s : ℕ) → s < a.signals.count → Low a s bytes)
      → InspectsAll a a.signals.count list bytes
  unfolding schedule_length
  own_all l w b = record { listed = l; few = a.fits.few_signals; whole = w; short = omega (arith, length_is (its_table a), a.fits.few_signals, a.fits.few_uses); low = b }

  module _ (signals : ℕ) (list : List ℕ) (bytes : List ℕ) (A : InspectsAll a signals list bytes) where
    -- what is known of all is known of one
    pub one : (s : ℕ) (places : Places) → s < signals → ArePlaces a s places → Inspects a s list places bytes
    unfolding total
    one s places l L = record {
      listed = A.listed;
      signal = omega (arith, A.few);
      placed = L;
      whole = omega (arith, A.whole, total_within (size_of (its_table a)) signals s l);
      low = A.low s l;
    }

    pub starts_low : (s : ℕ) → s < signals → total (size_of (its_table a)) s ≤ longest_bytes
    starts_low s l = omega (arith, A.short, total_within (size_of (its_table a)) signals s l)

module _ (tab : Table) (bytes : List ℕ) where
  pub swept_none : all_swept tab bytes 0 ≡ true
  unfolding all_swept every
  swept_none = refl

  -- what the pass over signal s said
  module _ (s : ℕ) (r : Bool) (e : r ≡ (sweep tab (schedule_in tab bytes) s).right) where
    pub swept_more : r ≡ true → all_swept tab bytes s ≡ true → all_swept tab bytes (s + 1) ≡ true
    unfolding all_swept every
    swept_more q A = rw (add-one s) (and_is (sym e ∙ q) A)

    pub swept_fails : r ≡ false → {signals : ℕ} → s < signals → false ≡ all_swept tab bytes signals
    unfolding all_swept
    swept_fails q {signals} l = sym (no_test _ (λ A. not_both (every_at signals _ A s l) (sym e ∙ q)))
