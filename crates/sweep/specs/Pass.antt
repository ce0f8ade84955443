-- The pass over openings and closings by what the code has at hand: the lent bytes, the grid's cell, where a task's elements begin. Assumes nothing.
use Rattle.std.specs.Prelude.{ℕ, suc, ◌+◌, ◌*◌, ◌-◌, ◌/◌, ◌%◌, ◌≤◌, ◌<◌, Bool, true, false, ◌||◌, cond, List, ◌≡◌, T, eqb, length, get_or, set}
use Rattle.rules.specs.Words.{total, every}
use Rattle.rules.specs.Windows.{Table, instances}
use Rattle.rules.specs.Table.{most_tasks, most_signals, most_elements, longest}
use Rattle.rules.specs.Bytes.{wi, ri, size_of, start_of, schedule_in}
use Rattle.rules.specs.Reading.{Grid, table_of, no_signals, cell_at, writes_in}
use Rattle.rules.specs.declared.Tasks.{Tasks}
use Rattle.theory.specs.Sweep.{Pass, is_opening, reading, writing, publishing, never, none_held, events, sweep}
use Rattle.events.specs.Order.{tasks_table}
use Rattle.accept.specs.Accepts.{its_table}
use Rattle.accept.specs.declared.Accepted.{Accepted}
use Rattle.form.specs.Records.{Instances}
use Rattle.rules.specs.declared.Side.{Side}
use Rattle.form.specs.declared.users.Users.{Users}
use Rattle.sweep.specs.declared.Places.{Places}
use Rattle.sweep.specs.declared.swept.Swept.{Swept}
use Rattle.sweep.specs.declared.swept.Turn.{Turn}

-- the table of these tasks and accesses: the pass over a signal is that of every table with them
abbrev pub grid_table : Tasks → Grid → Table
grid_table tasks grid = table_of tasks no_signals grid

-- what the code keeps of the pass
abbrev pub pass_of : Swept → Pass
pass_of p = record { right = p.clean; held = p.standing.held; current = p.standing.current; reach = p.standing.reach }

-- the pass before the first opening
abbrev pub unswept : Pass
unswept = record { right = true; held = set (none_held most_elements) 0 never; current = 0; reach = 0 }

-- the cell of a task lets it read, or write
abbrev pub may_read : ℕ → Bool
may_read cell = eqb (cell % 2) 1

abbrev pub may_write : ℕ → Bool
may_write cell = eqb (cell / 2 % 2) 1

abbrev pub has : Side → ℕ → Bool
has Side.Writers = may_write
has Side.Readers = may_read

-- the element of instance i, where that of instance 0 is at `first`: records have 7 bytes
abbrev pub element_at : List ℕ → ℕ → ℕ → ℕ
element_at bytes first i = get_or bytes (first + 7 * i) 0

-- it stands inside the bytes
abbrev pub Inside : List ℕ → ℕ → ℕ → Type 0
Inside bytes first i = first + 7 * i < length bytes

pub record TurnFits (x : Turn) : Type 0 where
  pub window : x.task.start < x.task.end
  pub within : x.task.end ≤ x.task.period
  pub short : x.task.period ≤ longest
  pub early : x.tick ≤ longest

module _ (bytes : List ℕ) where
  -- a reader's, and a writer's, element of the instance of tick t is there to be read
  abbrev pub Reads : Turn → Type 0
  Reads x = may_read x.cell ≡ true → (x.task.start ≤ x.tick) × Inside bytes x.readers (x.tick / x.task.period)

  abbrev pub Writes : Turn → ℕ → Type 0
  Writes x t = may_write x.cell ≡ true → Inside bytes x.writers (t / x.task.period) × (element_at bytes x.writers (t / x.task.period) < most_elements)

  unfoldable pub read_of : Pass → Turn → Pass
  read_of p x = cond (may_read x.cell) (reading p (element_at bytes x.readers (x.tick / x.task.period)) (x.tick - x.task.start + x.task.end)) p

  unfoldable pub wrote_of : Pass → Turn → Pass
  wrote_of p x = cond (may_write x.cell) (writing p (element_at bytes x.writers (x.tick / x.task.period)) x.tick) p

  unfoldable pub closed_of : Pass → Turn → Pass
  closed_of p x = cond (may_write x.cell) (publishing p (element_at bytes x.writers ((x.tick - 1) / x.task.period)) x.tick) p

  unfoldable pub handled_of : ℕ → Pass → Turn → Pass
  handled_of event p x = cond (is_opening event) (wrote_of (read_of p x) x) (closed_of p x)

  -- what the elements of a task that opens or closes must be for the bytes to be read
  pub record Handles (event : ℕ) (x : Turn) : Type 0 where
    pub fits : TurnFits x
    pub opens : is_opening event ≡ true → Reads x × Writes x x.tick
    pub closes : is_opening event ≡ false → (1 ≤ x.tick) × Writes x (x.tick - 1)

-- for the first n tasks whether a closing, and whether an opening, is anything for signal s
pub record AreActs (grid : Grid) (s n : ℕ) (acts : List Bool) : Type 0 where
  pub closing : (k : ℕ) → k < n → get_or acts k false ≡ may_write (cell_at grid k s)
  pub opening : (k : ℕ) → k < n → get_or acts (most_tasks + k) false ≡ (may_read (cell_at grid k s) || may_write (cell_at grid k s))
  pub size : length acts ≡ 2 * most_tasks

-- ---- where the elements of a signal stand

-- the longest schedule
abbrev pub longest_bytes : ℕ
longest_bytes = 28802

module _ (a : Accepted) where
  -- what decides the records of this table
  pub record AreUsers (u : Users) : Type 0 where
    pub grid : u.grid.now ≡ a.grid
    pub tasks : u.tasks ≡ a.tasks.count
    pub instances : Instances a.tasks a.hyper u.instances

  -- each place is that of the first instance's element
  pub record ArePlaces (s : ℕ) (places : Places) : Type 0 where
    pub readers : (k : ℕ) → k < a.tasks.count → get_or places.readers k 0 ≡ start_of (its_table a) (ri s k 0) + 6
    pub writers : (k : ℕ) → k < a.tasks.count → get_or places.writers k 0 ≡ start_of (its_table a) (wi s k 0) + 6

  -- the elements of its writers are elements
  abbrev pub Low : ℕ → List ℕ → Type 0
  Low s bytes = (k i : ℕ) → k < a.tasks.count → T (writes_in a.grid s k) → i < instances (its_table a) k → (schedule_in (its_table a) bytes).writer s k i < most_elements

  -- ---- what a check starts from

  -- for signal s, one of the table's own or not, the table's openings and closings in their order, its places, and bytes that reach to the end of its records
  pub record Inspects (s : ℕ) (list : List ℕ) (places : Places) (bytes : List ℕ) : Type 0 where
    pub listed : list ≡ events (tasks_table a.tasks)
    pub signal : s < most_signals
    pub placed : ArePlaces s places
    pub whole : total (size_of (its_table a)) (suc s) ≤ length bytes
    pub low : Low s bytes

  -- for so many signals the same, but for the places; all their records are no longer than the longest schedule, as those of the table's own signals are
  pub record InspectsAll (signals : ℕ) (list : List ℕ) (bytes : List ℕ) : Type 0 where
    pub listed : list ≡ events (tasks_table a.tasks)
    pub few : signals ≤ most_signals
    pub whole : total (size_of (its_table a)) signals ≤ length bytes
    pub short : total (size_of (its_table a)) signals ≤ longest_bytes
    pub low : (s : ℕ) → s < signals → Low s bytes

-- no signal's pass meets a mistake
unfoldable pub all_swept : Table → List ℕ → ℕ → Bool
all_swept tab bytes n = every n (λ s. (sweep tab (schedule_in tab bytes) s).right)
