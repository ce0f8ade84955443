-- What loading lays depends on the instances of the table's own tasks alone, and on no number past them. Assumes nothing.
use Prim.Native.Nat.{ℕ, zero, suc, ◌+◌, ◌≤◌, ◌<◌}
use mathlib.Core.Path.{◌≡◌, refl, ap, ap₂, ◌∙◌}
use mathlib.Core.List.{List}
use native.Mathlib.Omega.{arith}
use lib.ListN.{get_or, set}
use Rattle.rules.specs.Words.{total, times, up_to}
use Rattle.rules.specs.Reading.{Grid, task_of}
use Rattle.rules.specs.declared.Tasks.{Tasks}
use Rattle.state.specs.Parts.{reads, writes, carried}
use Rattle.loading.specs.Laid.{set_window, windows_laid, permits, uses_of, count_in, place_access, place_accesses, place_uses, fill_elements, signal_uses, used_before, base_before, signal_at, signal_laid, store_laid, Room}
use Rattle.loading.proofs.Sums.{total_below}

-- turns that do the same below n
up_to_below : {A : Type 0} (f g : ℕ → A → A) (n : ℕ) (a : A) → ((k : ℕ) → k < n → (b : A) → f k b ≡ g k b) → up_to n f a ≡ up_to n g a
unfolding up_to
up_to_below f g zero a e = refl
up_to_below f g (suc n) a e = ap (f n) (up_to_below f g n a (λ k h. e k (omega arith))) ∙ e n (omega arith) (up_to n g a)

-- the windows
pub windows_same : (tasks : Tasks) (cs ds n : List ℕ) → ((k : ℕ) → k < tasks.count → get_or cs k 0 ≡ get_or ds k 0) → windows_laid tasks cs n ≡ windows_laid tasks ds n
unfolding windows_laid
windows_same tasks cs ds n e = up_to_below _ _ tasks.count n (λ k h b. ap (λ c. set_window (task_of tasks k) c k b) (e k h))

module _ (grid : Grid) (cs ds : List ℕ) (tasks : ℕ) (e : (k : ℕ) → k < tasks → get_or cs k 0 ≡ get_or ds k 0) where
  uses_same : (right s n : ℕ) → n ≤ tasks → uses_of grid cs right s n ≡ uses_of grid ds right s n
  unfolding uses_of
  uses_same right s n l = total_below _ _ n (λ k h. ap (times (permits grid right k s)) (e k (omega arith)))

  signal_uses_same : (s : ℕ) → signal_uses grid cs tasks s ≡ signal_uses grid ds tasks s
  signal_uses_same s = ap₂ ◌+◌ (uses_same 2 s tasks (omega arith)) (uses_same 1 s tasks (omega arith))

  used_same : (s : ℕ) → used_before grid cs tasks s ≡ used_before grid ds tasks s
  unfolding used_before
  used_same s = total_below _ _ s (λ r l. signal_uses_same r)

  accesses_same : (kind right s first : ℕ) (l : List ℕ) → place_accesses kind grid cs right s first tasks l ≡ place_accesses kind grid ds right s first tasks l
  unfolding place_accesses
  accesses_same kind right s first l = up_to_below _ _ tasks l (λ k h b. ap (λ u. place_access kind grid right s (first + u) k b) (uses_same right s k (omega arith)))

  module _ (schedule : List ℕ) where
    base_same : (s : ℕ) → base_before grid cs schedule tasks s ≡ base_before grid ds schedule tasks s
    unfolding base_before
    base_same s = total_below _ _ s (λ r l. ap (count_in schedule r) (used_same r))

    signal_same : (s : ℕ) (n : List ℕ) → signal_laid grid cs schedule tasks s n ≡ signal_laid grid ds schedule tasks s n
    unfolding signal_laid signal_at
    signal_same s n =
        let placed = ap₂ (λ u b. place_accesses writes grid cs 2 s u tasks (set n (carried + s) b)) (used_same s) (base_same s) ∙ accesses_same writes 2 s _ _ in
        let both = ap₂ (λ f l. place_accesses reads grid cs 1 s f tasks l) (ap₂ ◌+◌ (used_same s) (uses_same 2 s tasks (omega arith))) placed ∙ accesses_same reads 1 s _ _ in
        λ i. place_uses schedule s (base_same s i) (used_same s i) (signal_uses_same s i) (both i)

    pub signals_same : (count : ℕ) (n : List ℕ) → up_to count (signal_laid grid cs schedule tasks) n ≡ up_to count (signal_laid grid ds schedule tasks) n
    signals_same count n = up_to_below _ _ count n (λ s h b. signal_same s b)

    pub stores_same : (defaults : List ℕ) (count : ℕ) (store : List ℕ) → up_to count (store_laid grid cs schedule tasks defaults) store ≡ up_to count (store_laid grid ds schedule tasks defaults) store
    unfolding store_laid
    stores_same defaults count store = up_to_below _ _ count store (λ s h b. ap₂ (λ u v. fill_elements u (count_in schedule s v) (get_or defaults s 0) b) (base_same s) (used_same s))

    pub room_same : (count : ℕ) → Room grid ds schedule tasks count → Room grid cs schedule tasks count
    room_same count R =
        record {
          few_tasks = R.few_tasks;
          few_signals = R.few_signals;
          few_uses = omega (arith, used_same count, R.few_uses);
          bytes = omega (arith, used_same count, R.bytes);
          elements = omega (arith, base_same count, R.elements);
        }
