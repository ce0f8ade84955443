-- Document 01, loading: the numbers and the store that the machine keeps, from the tasks, the grid and the schedule's bytes. Assumes nothing.
use Rattle.std.specs.Prelude.{ℕ, ◌+◌, ◌*◌, ◌/◌, ◌%◌, ◌≤◌, ◌<◌, Bool, cond, List, eqb, length, get_or, set, replicate}
use Rattle.rules.specs.Words.{total, times, up_to}
use Rattle.rules.specs.Table.{most_tasks, most_signals, most_uses, words}
use Rattle.rules.specs.Reading.{Grid, cell_at, task_of}
use Rattle.rules.specs.declared.Task.{Task}
use Rattle.rules.specs.declared.Tasks.{Tasks}
use Rattle.state.specs.Parts.{none, cells, cell, loaded, hyper, periods, starts, ends, counts, reads, writes, uses, carried, numbers}

-- marked as loaded, at tick 0, without any access
unfoldable pub blank : (hyper : ℕ) → List ℕ
blank h = up_to (cells + cells) (λ c n. set n (reads + c) none) (set (set (replicate numbers 0) loaded 1) hyper h)

-- ---- task by task

-- the numbers of a window fit the places of the list; those of an accepted table do
pub record Narrow (w : Task) : Type 0 where
  pub positive : 0 < w.period
  pub period : w.period < 65536
  pub start : w.start < 65536
  pub end : w.end < 65536

module _ (tasks : Tasks) where
  pub record Windowed : Type 0 where
    pub few_tasks : tasks.count ≤ most_tasks
    pub narrow : (k : ℕ) → k < tasks.count → Narrow (task_of tasks k)

  -- how many instances each task has
  unfoldable pub counts_of : (hyper : ℕ) → List ℕ
  counts_of h = up_to tasks.count (λ k l. set l k (h / (task_of tasks k).period)) (replicate most_tasks 0)

-- task t has this window, and so many instances
unfoldable pub set_window : Task → (count t : ℕ) → List ℕ → List ℕ
set_window w c t n = set (set (set (set n (periods + t) w.period) (starts + t) w.start) (ends + t) w.end) (counts + t) c

unfoldable pub windows_laid : Tasks → (counts n : List ℕ) → List ℕ
windows_laid tasks cs = up_to tasks.count (λ k. set_window (task_of tasks k) (get_or cs k 0) k)

-- ---- one signal

-- task k has this right to signal s: 1 to read it, 2 to write it
abbrev pub permits : Grid → (right k s : ℕ) → Bool
permits grid right k s = eqb (cell_at grid k s / right % 2) 1

-- the uses that the tasks below n have of signal s, one for each instance
unfoldable pub uses_of : Grid → (counts : List ℕ) → (right s n : ℕ) → ℕ
uses_of grid cs right s n = total (λ k. times (permits grid right k s) (get_or cs k 0)) n

-- the schedule's bytes: 4 for each BF and 7 for each use stand before the record; its last byte is the count, or the element
abbrev pub count_in : List ℕ → (s used : ℕ) → ℕ
count_in schedule s used = get_or schedule (4 * s + 7 * used + 3) 0

abbrev pub element_in : List ℕ → (s j : ℕ) → ℕ
element_in schedule s j = get_or schedule (4 * (s + 1) + 7 * j + 6) 0

-- the uses of task k's access to signal s begin at `used`
unfoldable pub place_access : (kind : ℕ) → Grid → (right s used k : ℕ) → List ℕ → List ℕ
place_access kind grid right s used k n = cond (permits grid right k s) (set n (cell kind k s) used) n

-- those of all tasks below m one after the other
unfoldable pub place_accesses : (kind : ℕ) → Grid → (counts : List ℕ) → (right s first m : ℕ) → List ℕ → List ℕ
place_accesses kind grid cs right s first m = up_to m (λ k. place_access kind grid right s (first + uses_of grid cs right s k) k)

-- m uses of signal s stand where the schedule says
unfoldable pub place_uses : List ℕ → (s base first m : ℕ) → List ℕ → List ℕ
place_uses schedule s base first m = up_to m (λ j n. set n (uses + (first + j)) (base + element_in schedule s (first + j)))

-- m elements hold the word
unfoldable pub fill_elements : (base m word : ℕ) → List ℕ → List ℕ
fill_elements base m word = up_to m (λ e l. set l (base + e) word)

-- ---- signal by signal

module _ (grid : Grid) (cs : List ℕ) (tasks : ℕ) where
  -- the uses of signal s: first those of its writers, then those of its readers
  abbrev pub signal_uses : ℕ → ℕ
  signal_uses s = uses_of grid cs 2 s tasks + uses_of grid cs 1 s tasks

  -- the uses of the signals before s
  unfoldable pub used_before : ℕ → ℕ
  used_before s = total signal_uses s

module _ (grid : Grid) (cs schedule : List ℕ) (tasks : ℕ) where
  -- the elements of the signals before s
  unfoldable pub base_before : ℕ → ℕ
  base_before s = total (λ r. count_in schedule r (used_before grid cs tasks r)) s

  -- signal s, with so many uses and elements before it
  unfoldable pub signal_at : (used base s : ℕ) → List ℕ → List ℕ
  signal_at used base s n =
      place_uses schedule s base used (signal_uses grid cs tasks s)
      (place_accesses reads grid cs 1 s (used + uses_of grid cs 2 s tasks) tasks
      (place_accesses writes grid cs 2 s used tasks
      (set n (carried + s) base)))

  unfoldable pub signal_laid : ℕ → List ℕ → List ℕ
  signal_laid s = signal_at (used_before grid cs tasks s) (base_before s) s

  unfoldable pub store_laid : (defaults : List ℕ) → ℕ → List ℕ → List ℕ
  store_laid defaults s = fill_elements (base_before s) (count_in schedule s (used_before grid cs tasks s)) (get_or defaults s 0)

  -- there is room for one signal, and for all
  pub record SignalRoom (used base s : ℕ) : Type 0 where
    pub few_tasks : tasks ≤ most_tasks
    pub signal : s < most_signals
    pub few_uses : used + signal_uses grid cs tasks s ≤ most_uses
    pub bytes : 4 * s + 7 * (used + signal_uses grid cs tasks s) + 4 ≤ length schedule
    pub elements : base + count_in schedule s used ≤ words

  pub record Room (signals : ℕ) : Type 0 where
    pub few_tasks : tasks ≤ most_tasks
    pub few_signals : signals ≤ most_signals
    pub few_uses : used_before grid cs tasks signals ≤ most_uses
    pub bytes : 4 * signals + 7 * used_before grid cs tasks signals ≤ length schedule
    pub elements : base_before signals ≤ words
