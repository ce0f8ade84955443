-- What the code has of a table says what the table's definitions say: lengths and records.
use mathlib.Core.Path.{◌≡◌, refl, sym, ap, ap₂, ◌∙◌}
use mathlib.Core.List.{List, ◌∷◌, ◌++◌}
use Prim.Native.Nat.{ℕ, zero, suc, ◌+◌, ◌*◌, ◌/◌, ◌≤◌, ◌<◌}
use native.Mathlib.Omega.{arith}
use lib.ListN.{get_or}
use Rattle.rules.specs.Words.{total, gather, times}
use Rattle.rules.specs.Windows.{Table, lcm_all, hyper}
use Rattle.rules.specs.Windows as windows
use Rattle.rules.specs.Bytes.{Part, bf, writers_below, readers_below, parts_of, parts, size_of, schedule_length}
use Rattle.rules.specs.Reading.{Grid, task_of, table_of}
use Rattle.rules.specs.declared.Tasks.{Tasks}
use Rattle.rules.specs.declared.Signals.{Signals}
use Rattle.rules.specs.declared.Side.{Side}
use Rattle.form.specs.Records.{Instances, permits, users_of, users_below, signal_bytes, instance_parts, side_parts, sides_parts, signal_parts, parts_in}

-- ---- sums and lists agree where their members do

pub total_below : (f g : ℕ → ℕ) (n : ℕ) → ((k : ℕ) → k < n → f k ≡ g k) → total f n ≡ total g n
unfolding total
total_below f g zero h = refl
total_below f g (suc n) h = ap₂ ◌+◌ (total_below f g n (λ k l. h k (omega arith))) (h n (omega arith))

gather_below : {A : Type 0} (f g : ℕ → List A) (n : ℕ) → ((k : ℕ) → k < n → f k ≡ g k) → gather n f ≡ gather n g
unfolding gather
gather_below f g zero h = refl
gather_below f g (suc n) h = ap₂ ◌++◌ (gather_below f g n (λ k l. h k (omega arith))) (h n (omega arith))

module _ (tasks : Tasks) (S : Signals) (grid : Grid) (h : ℕ) (instances : List ℕ)
    (e : h ≡ lcm_all (λ k. (task_of tasks k).period) tasks.count) (I : Instances tasks h instances) where
  abbrev tab : Table
  tab = table_of tasks S grid

  instances_is : (k : ℕ) → k < tasks.count → get_or instances k 0 ≡ windows.instances tab k
  unfolding hyper
  instances_is k l = I k l ∙ ap (λ (x : ℕ). x / (task_of tasks k).period) e

  users_is : (side : Side) (s k : ℕ) → k < tasks.count → users_of grid instances side s k ≡ times (permits grid side s k) (windows.instances tab k)
  unfolding users_of
  users_is side s k l = ap (times (permits grid side s k)) (instances_is k l)

  pub writers_is : (s n : ℕ) → n ≤ tasks.count → users_below grid instances Side.Writers s n ≡ writers_below tab s n
  unfolding users_below writers_below
  writers_is s n m = total_below _ _ n (λ k l. users_is Side.Writers s k (omega arith))

  pub readers_is : (s n : ℕ) → n ≤ tasks.count → users_below grid instances Side.Readers s n ≡ readers_below tab s n
  unfolding users_below readers_below
  readers_is s n m = total_below _ _ n (λ k l. users_is Side.Readers s k (omega arith))

  bytes_is : (s : ℕ) → signal_bytes grid instances tasks.count s ≡ size_of tab s
  unfolding signal_bytes size_of
  bytes_is s = ap₂ (λ w r. 4 + 7 * (w + r)) (writers_is s tasks.count (omega arith)) (readers_is s tasks.count (omega arith))

  pub length_is : (n : ℕ) → S.count ≡ n → total (signal_bytes grid instances tasks.count) n + 2 ≡ schedule_length tab
  unfolding schedule_length
  length_is n q = ap (λ x. x + 2) (total_below _ _ n (λ s l. bytes_is s) ∙ ap (total (size_of tab)) (sym q))

  side_is : (side : Side) (s : ℕ) → side_parts grid instances tasks.count side s ≡ gather tasks.count (λ k. instance_parts side s k (times (permits grid side s k) (windows.instances tab k)))
  unfolding side_parts
  side_is side s = gather_below _ _ tasks.count (λ k l. ap (instance_parts side s k) (users_is side s k l))

  signal_is : (s : ℕ) → signal_parts grid instances tasks.count s ≡ parts_of tab s
  unfolding signal_parts sides_parts parts_of
  signal_is s = ap₂ (λ (w r : List Part). bf s ∷ w ++ r) (side_is Side.Writers s) (side_is Side.Readers s)

  pub parts_is : (n : ℕ) → S.count ≡ n → parts_in grid instances tasks.count n ≡ parts tab
  unfolding parts_in parts
  parts_is n q = gather_below _ _ n (λ s l. signal_is s) ∙ ap (λ m. gather m (parts_of tab)) (sym q)
