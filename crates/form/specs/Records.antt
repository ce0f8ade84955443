-- The records of a schedule as the code walks them: by the grid, and by the number of instances of each task. Assumes nothing.
use Rattle.std.specs.Prelude.{◌≡◌, Bool, List, [], ◌∷◌, ◌++◌, ℕ, ◌+◌, ◌*◌, ◌/◌, ◌≤◌, ◌<◌, get_or}
use Rattle.rules.specs.Words.{total, gather, times}
use Rattle.rules.specs.Table.{most_tasks, longest}
use Rattle.rules.specs.Fields.{WI, RI}
use Rattle.rules.specs.Bytes.{Part, bf, wi, ri}
use Rattle.rules.specs.Reading.{Grid, writes_in, reads_in, task_of}
use Rattle.rules.specs.declared.Tasks.{Tasks}
use Rattle.rules.specs.declared.Side.{Side}

-- ---- the two sides of a signal

abbrev pub mark_of : Side → List ℕ
mark_of Side.Writers = WI
mark_of Side.Readers = RI

abbrev pub permits : Grid → Side → ℕ → ℕ → Bool
permits grid Side.Writers = writes_in grid
permits grid Side.Readers = reads_in grid

abbrev pub use_of : Side → ℕ → ℕ → ℕ → Part
use_of Side.Writers = wi
use_of Side.Readers = ri

-- ---- what the code has of an accepted table

-- the number of instances of each task
abbrev pub Instances : Tasks → ℕ → List ℕ → Type 0
Instances tasks h instances = (k : ℕ) → k < tasks.count → get_or instances k 0 ≡ h / (task_of tasks k).period

abbrev pub Short : ℕ → List ℕ → Type 0
Short tasks instances = (k : ℕ) → k < tasks → get_or instances k 0 ≤ longest

-- the bytes of each record with its mark
abbrev pub bf_bytes : ℕ
bf_bytes = 4

abbrev pub use_bytes : ℕ
use_bytes = 7

abbrev pub en_bytes : ℕ
en_bytes = 2

-- the most bytes that the records of one signal can take
abbrev pub longest_signal : ℕ
longest_signal = bf_bytes + use_bytes * (2 * (most_tasks * longest))

-- the records of n instances of task k
abbrev pub instance_parts : Side → ℕ → ℕ → ℕ → List Part
instance_parts side s k n = gather n (λ i. use_of side s k i ∷ [])

module _ (grid : Grid) (instances : List ℕ) where
  -- how many records task k has for signal s on this side
  unfoldable pub users_of : Side → ℕ → ℕ → ℕ
  users_of side s k = times (permits grid side s k) (get_or instances k 0)

  -- and the tasks below n together
  unfoldable pub users_below : Side → ℕ → ℕ → ℕ
  users_below side s n = total (users_of side s) n

  -- where the records of the tasks below n begin on this side, if each takes so much and the first begins here
  abbrev pub Starts : (step : ℕ) → Side → (s first n : ℕ) → List ℕ → Type 0
  Starts step side s first n starts = (k : ℕ) → k < n → get_or starts k 0 ≡ first + step * users_below side s k

  -- the bytes of the records of signal s
  unfoldable pub signal_bytes : ℕ → ℕ → ℕ
  signal_bytes tasks s = bf_bytes + use_bytes * (users_below Side.Writers s tasks + users_below Side.Readers s tasks)

  -- ---- the records one after the other

  -- of one side of signal s
  unfoldable pub side_parts : ℕ → Side → ℕ → List Part
  side_parts tasks side s = gather tasks (λ k. instance_parts side s k (users_of side s k))

  -- of both, the writers first
  unfoldable pub sides_parts : ℕ → ℕ → List Part
  sides_parts tasks s = side_parts tasks Side.Writers s ++ side_parts tasks Side.Readers s

  -- of signal s
  unfoldable pub signal_parts : ℕ → ℕ → List Part
  signal_parts tasks s = bf s ∷ sides_parts tasks s

  -- of all signals
  unfoldable pub parts_in : ℕ → ℕ → List Part
  parts_in tasks signals = gather signals (signal_parts tasks)
