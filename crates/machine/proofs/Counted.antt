-- The numbers that a loading works with are those of the table, and there is room for all that it lays. Assumes nothing.
use Prim.Native.Nat.{ℕ, ◌+◌, ◌*◌, ◌/◌, ◌%◌, ◌≤◌, ◌<◌}
use mathlib.Core.Path.{◌≡◌, refl, sym, ap, ap₂, ◌∙◌}
use mathlib.Core.Bool.{true}
use mathlib.Core.List.{List}
use native.Mathlib.Omega.{arith}
use native.Mathlib.Nat.{div-one}
use lib.Dec.{eqb}
use lib.ListN.{get_or, replicate, length-replicate}
use Rattle.rules.specs.Words.{total, times, up_to}
use Rattle.rules.specs.Windows.{Table, instances}
use Rattle.rules.specs.Table.{most_tasks, words, uses}
use Rattle.rules.specs.Schedule.{Schedule, base}
use Rattle.rules.specs.Bytes.{writers_below, readers_below, size_of, start_of, schedule_in}
use Rattle.rules.specs.Reading.{cell_at, task_of, writes_in, reads_in}
use Rattle.theory.proofs.Sums.{sizes, uses_all, length_is}
use Rattle.state.proofs.Sets.{sets_at, sets_off, alike}
use Rattle.state.specs.Rows.{openings, released}
use Rattle.loading.specs.Laid.{blank, counts_of, windows_laid, permits, uses_of, count_in, element_in, used_before, base_before, signal_laid, store_laid, Room}
use Rattle.loading.proofs.Sums.{total_below}
use Rattle.machine.proofs.Same.{windows_same, signals_same, stores_same, room_same}
use Rattle.machine.specs.Calls.{keeping}
use Rattle.machine.specs.Started.{Given, tab, made, counted, laid, filled, started, Checked}

module _ (g : Given) where
  -- where the uses of signal s begin
  abbrev pub used : ℕ → ℕ
  used s = used_before g.grid (counted g) g.tasks.count s

module _ (g : Given) (C : Checked g) where
  open g use {tasks, signals, grid, hyper, schedule}

  abbrev T : Table
  T = tab g

  abbrev E : Schedule
  E = made g

  abbrev cs : List ℕ
  cs = counted g

  abbrev U : ℕ → ℕ
  U = used g

  pub count_of : (k : ℕ) → k < tasks.count → get_or cs k 0 ≡ instances T k
  unfolding counts_of
  count_of k h =
      sets_at (λ j. true) (λ j. j) (λ j. hyper / (task_of tasks j).period) tasks.count (replicate most_tasks 0) k (hyper / (task_of tasks k).period) (omega (arith, length-replicate {A = ℕ} most_tasks 0, C.fits.few_tasks))
      (λ j l t e. ap (λ i. hyper / (task_of tasks i).period) e) k h refl refl
      ∙ ap (λ x. x / (task_of tasks k).period) C.hyper_is

  -- the same instances, from the table's own hyper-period
  pub instances_as : (is : List ℕ) → ((k : ℕ) → k < tasks.count → get_or is k 0 ≡ hyper / (task_of tasks k).period) → (k : ℕ) → k < tasks.count → get_or is k 0 ≡ get_or cs k 0
  instances_as is e k h = e k h ∙ ap (λ x. x / (task_of tasks k).period) C.hyper_is ∙ sym (count_of k h)

  pub count_none : (k : ℕ) → tasks.count ≤ k → get_or cs k 0 ≡ 0
  unfolding counts_of
  count_none k h =
      sets_off (λ j. true) (λ j. j) (λ j. hyper / (task_of tasks j).period) tasks.count (replicate most_tasks 0) k (λ j l t e. omega arith) ∙ alike most_tasks k 0

  pub writers_of : (s n : ℕ) → n ≤ tasks.count → uses_of grid cs 2 s n ≡ writers_below T s n
  unfolding uses_of writers_below writes_in
  writers_of s n h = total_below _ _ n (λ k l. ap (times (permits grid 2 k s)) (count_of k (omega arith)))

  pub reads_is : (s k : ℕ) → permits grid 1 k s ≡ reads_in grid s k
  unfolding reads_in
  reads_is s k = ap (λ x. eqb (x % 2) 1) (div-one (cell_at grid k s))

  pub readers_of : (s n : ℕ) → n ≤ tasks.count → uses_of grid cs 1 s n ≡ readers_below T s n
  unfolding uses_of readers_below
  readers_of s n h = total_below _ _ n (λ k l. ap₂ times (reads_is s k) (count_of k (omega arith)))

  used_is : (s : ℕ) → U s ≡ total (λ r. writers_below T r tasks.count + readers_below T r tasks.count) s
  unfolding used_before
  used_is s = total_below _ _ s (λ r l. ap₂ ◌+◌ (writers_of r tasks.count (omega arith)) (readers_of r tasks.count (omega arith)))

  -- 4 bytes for each BF and 7 for each use
  bytes_before : (s : ℕ) → total (size_of T) s ≡ 4 * s + 7 * U s
  bytes_before s = sizes T s ∙ ap (λ x. 4 * s + 7 * x) (sym (used_is s))

  pub all_used : U signals.count ≡ uses T
  all_used = used_is signals.count ∙ uses_all T

  pub count_is : (s : ℕ) → count_in schedule s (U s) ≡ E.count s
  unfolding schedule_in start_of
  count_is s = ap (λ p. get_or schedule (p + 3) 0) (sym (bytes_before s))

  pub base_is : (s : ℕ) → base_before grid cs schedule tasks.count s ≡ base E s
  unfolding base_before base
  base_is s = total_below _ _ s (λ r l. count_is r)

  pub writer_is : (s k i : ℕ) → element_in schedule s (U s + writers_below T s k + i) ≡ E.writer s k i
  unfolding schedule_in start_of
  writer_is s k i = ap (λ p. get_or schedule p 0) (omega (arith, bytes_before s))

  pub reader_is : (s k i : ℕ) → element_in schedule s (U s + writers_below T s tasks.count + readers_below T s k + i) ≡ E.reader s k i
  unfolding schedule_in start_of
  reader_is s k i = ap (λ p. get_or schedule p 0) (omega (arith, bytes_before s))

  -- ---- room

  pub room : Room grid cs schedule tasks.count signals.count
  room =
      record {
        few_tasks = C.fits.few_tasks;
        few_signals = C.fits.few_signals;
        few_uses = omega (arith, all_used, C.fits.few_uses);
        bytes = omega (arith, all_used, C.whole, length_is T);
        elements = omega (arith, base_is signals.count, C.in_all);
      }

  -- the same room, by such instances
  pub room_by : (is : List ℕ) → ((k : ℕ) → k < tasks.count → get_or is k 0 ≡ get_or cs k 0) → Room grid is schedule tasks.count signals.count
  room_by is e = room_same grid is cs tasks.count e schedule signals.count room

-- the machine that is started, from what was laid one after the other by the instances of the table's tasks
module _ (g : Given) where
  pub started_is : (cs n₁ n₂ n₃ n₄ filling store : List ℕ) → ((k : ℕ) → k < g.tasks.count → get_or cs k 0 ≡ get_or (counted g) k 0) → n₁ ≡ blank g.hyper → n₂ ≡ windows_laid g.tasks cs n₁
      → (n₃ ≡ up_to g.signals.count (signal_laid g.grid cs g.schedule g.tasks.count) n₂)
      × (filling ≡ up_to g.signals.count (store_laid g.grid cs g.schedule g.tasks.count g.signals.defaults) (replicate words 0))
      → n₄ ≡ released n₃ → store ≡ openings n₄ g.signals.defaults filling
      → keeping n₄ g.signals.defaults store ≡ started g
  unfolding started laid filled
  started_is cs n₁ n₂ n₃ n₄ filling store c b w (l, f) r o =
      rw (
        o,
        r,
        l ∙ signals_same g.grid cs (counted g) g.tasks.count c g.schedule g.signals.count n₂,
        f ∙ stores_same g.grid cs (counted g) g.tasks.count c g.schedule g.signals.defaults g.signals.count (replicate words 0),
        w ∙ windows_same g.tasks cs (counted g) n₁ c,
        b,
      )
