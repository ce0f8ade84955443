-- Sums that a loop adds up. Assumes nothing.
use Prim.Native.Nat.{ℕ, zero, suc, ◌+◌, ◌-◌, ◌≤◌, ◌<◌}
use mathlib.Core.Path.{◌≡◌, refl, ap₂}
use mathlib.Core.List.{List}
use native.Mathlib.Omega.{arith}
use native.Mathlib.Numerals.{add-one}
use lib.Dec.{ltb}
use lib.ListN.{get_or}
use borrow.Author.Tests.{ltb-true, ltb-false}
use Rattle.rules.specs.Words.{total, times}
use Rattle.rules.specs.Reading.{Grid}
use Rattle.theory.proofs.Tests.{split}
use Rattle.theory.proofs.Sums.{total_upto}
use Rattle.loading.specs.Laid.{permits, uses_of, count_in, signal_uses, used_before, base_before}

pub total_next : (f : ℕ → ℕ) (n : ℕ) → total f (n + 1) ≡ total f n + f n
unfolding total
total_next f n = rw add-one

module _ (grid : Grid) (counts : List ℕ) (right s : ℕ) where
  pub uses_next : (k : ℕ) → uses_of grid counts right s (k + 1) ≡ uses_of grid counts right s k + times (permits grid right k s) (get_or counts k 0)
  unfolding uses_of
  uses_next k = total_next (λ k. times (permits grid right k s) (get_or counts k 0)) k

  pub uses_up : (n k : ℕ) → k ≤ n → uses_of grid counts right s k ≤ uses_of grid counts right s n
  unfolding uses_of
  uses_up n k h = total_upto (λ k. times (permits grid right k s) (get_or counts k 0)) k n h

  pub uses_none : uses_of grid counts right s 0 ≡ 0
  unfolding uses_of total
  uses_none = refl

module _ (grid : Grid) (counts schedule : List ℕ) (tasks : ℕ) where
  pub used_none : used_before grid counts tasks 0 ≡ 0
  unfolding used_before total
  used_none = refl

  pub used_next : (s : ℕ) → used_before grid counts tasks (s + 1) ≡ used_before grid counts tasks s + signal_uses grid counts tasks s
  unfolding used_before
  used_next s = total_next (signal_uses grid counts tasks) s

  pub used_up : (n s : ℕ) → s ≤ n → used_before grid counts tasks s ≤ used_before grid counts tasks n
  unfolding used_before
  used_up n s h = total_upto (signal_uses grid counts tasks) s n h

  pub base_none : base_before grid counts schedule tasks 0 ≡ 0
  unfolding base_before total
  base_none = refl

  pub base_next : (s : ℕ) → base_before grid counts schedule tasks (s + 1) ≡ base_before grid counts schedule tasks s + count_in schedule s (used_before grid counts tasks s)
  unfolding base_before
  base_next s = total_next (λ r. count_in schedule r (used_before grid counts tasks r)) s

  pub base_up : (n s : ℕ) → s ≤ n → base_before grid counts schedule tasks s ≤ base_before grid counts schedule tasks n
  unfolding base_before
  base_up n s h = total_upto (λ r. count_in schedule r (used_before grid counts tasks r)) s n h

pub total_below : (f g : ℕ → ℕ) (n : ℕ) → ((k : ℕ) → k < n → f k ≡ g k) → total f n ≡ total g n
unfolding total
total_below f g zero e = refl
total_below f g (suc n) e = ap₂ ◌+◌ (total_below f g n (λ k h. e k (omega arith))) (e n (omega arith))

pub total_has : (f : ℕ → ℕ) (n k : ℕ) → k < n → f k ≤ total f n
total_has f n k h = omega (arith, total_next f k, total_upto f (k + 1) n (omega arith))

-- what is counted by a sum is counted by one of its terms
pub total_split : (f : ℕ → ℕ) (n j : ℕ) → j < total f n → (k : ℕ) × (i : ℕ) × (k < n) × (i < f k) × (j ≡ total f k + i)
unfolding total
total_split f zero j h = absurd (omega arith)
total_split f (suc n) j h =
    split (ltb j (total f n))
    (λ e. let (k, i, a, b, c) = total_split f n j (ltb-true j (total f n) e) in (k, i, omega arith, b, c))
    (λ e. let l = ltb-false j (total f n) e in (n, j - total f n, omega arith, omega arith, omega arith))

-- what the loops over the tasks, and over the signals, add up
pub ruleset uses = (uses_none, uses_next, uses_up)

pub ruleset before = (used_none, used_next, used_up, base_none, base_next, base_up)
