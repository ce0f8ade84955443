-- The numbers of a loading hold what the table and the schedule's bytes say. Assumes nothing.
use Prim.Native.Nat.{ℕ, ◌+◌, ◌-◌, ◌*◌, ◌≤◌, ◌<◌}
use mathlib.Core.Path.{◌≡◌, refl, sym, ap, ◌∙◌}
use mathlib.Core.Bool.{Bool, true, ◌&&◌, cond}
use mathlib.Core.List.{List}
use mathlib.Core.Logic.{◌⊎◌, inl, inr}
use native.Mathlib.Omega.{arith}
use lib.Dec.{leb, ltb, eqb}
use lib.ListN.{length, get_or, set, replicate, length-set, length-replicate}
use lib.Seq.{get_or-set_same}
use borrow.Author.Tests.{ltb-true, ltb-false, leb-true, lt-ltb, le-ltb, le-leb, lt-leb, eq-eqb, ne_eqb, eqb-true, eqb-false}
use Rattle.rules.specs.Words.{up_to}
use Rattle.rules.specs.Windows.{Table}
use Rattle.rules.specs.Table.{most_tasks, most_signals, most_uses, words}
use Rattle.rules.specs.Schedule.{Schedule, base}
use Rattle.rules.specs.Reading.{task_of}
use Rattle.rules.specs.Meaning.{default_of}
use Rattle.rules.specs.Stores.{Memory, put}
use Rattle.rules.specs.Machine.{separate, seat}
use Rattle.rules.specs.declared.Task.{Task}
use Rattle.theory.proofs.Tests.{split, both, and_is, not_both}
use Rattle.theory.proofs.Loops.{loop_keeps, loop_turn, loop_idle, loop_once, loop_seen}
use Rattle.state.specs.Parts.{at, none, cells, cell, loaded, hyper, periods, starts, ends, counts, reads, writes, uses, carried, held, numbers, last_kind}
use Rattle.state.proofs.Frames.{set_off}
use Rattle.state.proofs.Sets.{sets_length, sets_off, sets_at, alike}
use Rattle.loading.specs.Laid.{blank, set_window, windows_laid, permits, uses_of, element_in, place_access, place_accesses, place_uses, fill_elements, signal_uses, base_before, signal_at, signal_laid, store_laid}
use Rattle.loading.proofs.Sums.{used_next, used_up}
use Rattle.machine.specs.Started.{Given, tab, made, counted, laid, filled, Checked}
use Rattle.machine.proofs.Counted.{used, all_used, base_is, count_is}

-- a place before a part, or after it
abbrev Beside : (part size x : ℕ) → Type 0
Beside part size x = (x < part) ⊎ (part + size ≤ x)

-- ---- before the windows

-- marked as loaded, with its hyper-period, over zeros
module _ (h : ℕ) (zeros : List ℕ) (long : length zeros ≡ numbers) where
  abbrev marked : List ℕ
  marked = set zeros loaded 1

  abbrev begun : List ℕ
  begun = set marked hyper h

  marked_long : length marked ≡ numbers
  marked_long = length-set {A = ℕ} zeros loaded 1 ∙ long

  begun_long : length begun ≡ numbers
  begun_long = length-set {A = ℕ} marked hyper h ∙ marked_long

  begun_loaded : at begun loaded ≡ 1
  begun_loaded = set_off marked hyper loaded h (λ e. omega arith) ∙ get_or-set_same zeros loaded 1 0 (omega arith)

  begun_hyper : at begun hyper ≡ h
  begun_hyper = get_or-set_same marked hyper h 0 (omega (arith, marked_long))

  begun_other : (x : ℕ) → hyper < x → at begun x ≡ at zeros x
  begun_other x a = set_off marked hyper x h (λ e. omega arith) ∙ set_off zeros loaded x 1 (λ e. omega arith)

  -- without any access
  abbrev bare : List ℕ
  bare = up_to (cells + cells) (λ c n. set n (reads + c) none) begun

  bare_none : (c : ℕ) → c < cells + cells → at bare (reads + c) ≡ none
  bare_none c b = sets_at (λ c. true) (λ c. reads + c) (λ c. none) (cells + cells) begun (reads + c) none (omega (arith, begun_long)) (λ j l t e. refl) c b refl refl

  bare_off : (x : ℕ) → Beside reads (cells + cells) x → at bare x ≡ at begun x
  bare_off x (inl b) = sets_off (λ c. true) (λ c. reads + c) (λ c. none) (cells + cells) begun x (λ j l t e. omega arith)
  bare_off x (inr b) = sets_off (λ c. true) (λ c. reads + c) (λ c. none) (cells + cells) begun x (λ j l t e. omega arith)

module _ (h : ℕ) where
  no_number : length {A = ℕ} (replicate numbers 0) ≡ numbers
  no_number = length-replicate {A = ℕ} numbers 0

  pub blank_long : length (blank h) ≡ numbers
  unfolding blank
  blank_long = sets_length (λ c. true) (λ c. reads + c) (λ c. none) (cells + cells) (begun h (replicate numbers 0) no_number) ∙ begun_long h (replicate numbers 0) no_number

  pub blank_none : (c : ℕ) → c < cells + cells → at (blank h) (reads + c) ≡ none
  unfolding blank
  blank_none = bare_none h (replicate numbers 0) no_number

  pub blank_loaded : at (blank h) loaded ≡ 1
  unfolding blank
  blank_loaded = bare_off h (replicate numbers 0) no_number loaded (inl (omega arith)) ∙ begun_loaded h (replicate numbers 0) no_number

  pub blank_hyper : at (blank h) hyper ≡ h
  unfolding blank
  blank_hyper = bare_off h (replicate numbers 0) no_number hyper (inl (omega arith)) ∙ begun_hyper h (replicate numbers 0) no_number

  -- everything else is 0
  pub blank_zero : (x : ℕ) → hyper < x → Beside reads (cells + cells) x → at (blank h) x ≡ 0
  unfolding blank
  blank_zero x a b = bare_off h (replicate numbers 0) no_number x b ∙ begun_other h (replicate numbers 0) no_number x a ∙ alike numbers x 0

-- ---- windows

module _ (w : Task) (c k : ℕ) (n : List ℕ) where
  abbrev n₁ : List ℕ
  n₁ = set n (periods + k) w.period

  abbrev n₂ : List ℕ
  n₂ = set n₁ (starts + k) w.start

  abbrev n₃ : List ℕ
  n₃ = set n₂ (ends + k) w.end

  long₃ : length n₃ ≡ length n
  long₃ = length-set n₂ (ends + k) w.end ∙ length-set n₁ (starts + k) w.start ∙ length-set n (periods + k) w.period

  pub window_long : length (set_window w c k n) ≡ length n
  unfolding set_window
  window_long = length-set n₃ (counts + k) c ∙ long₃

  -- what it leaves
  window_off : (x : ℕ) → (x ≡ periods + k → ⊥) → (x ≡ starts + k → ⊥) → (x ≡ ends + k → ⊥) → (x ≡ counts + k → ⊥) → at (set_window w c k n) x ≡ at n x
  unfolding set_window
  window_off x p s e o = set_off n₃ (counts + k) x c o ∙ set_off n₂ (ends + k) x w.end e ∙ set_off n₁ (starts + k) x w.start s ∙ set_off n (periods + k) x w.period p

  -- its four numbers
  record Window : Type 0 where
    period : at (set_window w c k n) (periods + k) ≡ w.period
    start : at (set_window w c k n) (starts + k) ≡ w.start
    end : at (set_window w c k n) (ends + k) ≡ w.end
    count : at (set_window w c k n) (counts + k) ≡ c

  window_at : k < most_tasks → length n ≡ numbers → Window
  unfolding set_window
  window_at h z =
      let z₁ = length-set n (periods + k) w.period in
      let z₂ = length-set n₁ (starts + k) w.start in
      let z₃ = length-set n₂ (ends + k) w.end in
      record {
        period = set_off n₃ (counts + k) (periods + k) c (λ e. omega arith) ∙ set_off n₂ (ends + k) (periods + k) w.end (λ e. omega arith) ∙ set_off n₁ (starts + k) (periods + k) w.start (λ e. omega arith) ∙ get_or-set_same n (periods + k) w.period 0 (omega arith);
        start = set_off n₃ (counts + k) (starts + k) c (λ e. omega arith) ∙ set_off n₂ (ends + k) (starts + k) w.end (λ e. omega arith) ∙ get_or-set_same n₁ (starts + k) w.start 0 (omega arith);
        end = set_off n₃ (counts + k) (ends + k) c (λ e. omega arith) ∙ get_or-set_same n₂ (ends + k) w.end 0 (omega arith);
        count = get_or-set_same n₃ (counts + k) c 0 (omega arith);
      }

-- a place of task k in one of the four parts
abbrev WindowPlace : (x k : ℕ) → Type 0
WindowPlace x k = (j : ℕ) → j < most_tasks → (j ≡ k → ⊥) → (x ≡ periods + j → ⊥) × (x ≡ starts + j → ⊥) × (x ≡ ends + j → ⊥) × (x ≡ counts + j → ⊥)

module _ (g : Given) (C : Checked g) where
  open g use {tasks, signals, grid, schedule}

  abbrev T : Table
  T = tab g

  abbrev E : Schedule
  E = made g

  abbrev cs : List ℕ
  cs = counted g

  abbrev U : ℕ → ℕ
  U = used g

  abbrev B : ℕ → ℕ
  B = base_before grid cs schedule tasks.count

  abbrev Long : List ℕ → Type 0
  Long n = length n ≡ numbers

  -- the numbers with their windows
  abbrev pub windowed : List ℕ
  windowed = windows_laid tasks cs (blank g.hyper)

  abbrev window : ℕ → List ℕ → List ℕ
  window j = set_window (task_of tasks j) (get_or cs j 0) j

  pub windowed_long : Long windowed
  unfolding windows_laid
  windowed_long = loop_keeps Long tasks.count window (blank g.hyper) (λ j a h q. window_long (task_of tasks j) (get_or cs j 0) j a ∙ q) (blank_long g.hyper)

  -- what no window reaches
  pub windowed_off : (x : ℕ) → Beside periods (4 * most_tasks) x → at windowed x ≡ at (blank g.hyper) x
  unfolding windows_laid
  windowed_off x b =
      loop_keeps (λ a. at a x ≡ at (blank g.hyper) x) tasks.count window (blank g.hyper)
      (λ j a h q. let k : j < most_tasks = omega (arith, C.fits.few_tasks) in
      window_off (task_of tasks j) (get_or cs j 0) j a x (off b (periods + j) (omega arith) (omega arith)) (off b (starts + j) (omega arith) (omega arith)) (off b (ends + j) (omega arith) (omega arith)) (off b (counts + j) (omega arith) (omega arith)) ∙ q) refl
    where
      off : Beside periods (4 * most_tasks) x → (y : ℕ) → periods ≤ y → y < periods + 4 * most_tasks → x ≡ y → ⊥
      off (inl a) y l h e = omega arith
      off (inr a) y l h e = omega arith

  -- a number of task k
  windowed_at : (x v k : ℕ) → k < tasks.count → WindowPlace x k → ((a : List ℕ) → Long a → at (window k a) x ≡ v) → at windowed x ≡ v
  unfolding windows_laid
  windowed_at x v k h p right =
      (loop_turn Long (λ a. Long a × (at a x ≡ v)) tasks.count window (blank g.hyper) k h
      (λ j a l d q. window_long (task_of tasks j) (get_or cs j 0) j a ∙ q)
      (λ a q. (window_long (task_of tasks k) (get_or cs k 0) k a ∙ q, right a q))
      (λ j a l d (q, e). (
        window_long (task_of tasks j) (get_or cs j 0) j a ∙ q,
        let o = p j (omega (arith, C.fits.few_tasks)) d in window_off (task_of tasks j) (get_or cs j 0) j a x o.0 o.1 o.2 o.3 ∙ e,
      ))
      (blank_long g.hyper)).1

  module _ (k : ℕ) (h : k < tasks.count) where
    few : k < most_tasks
    few = omega (arith, C.fits.few_tasks)

    numbers_of : (a : List ℕ) → Long a → Window (task_of tasks k) (get_or cs k 0) k a
    numbers_of a q = window_at (task_of tasks k) (get_or cs k 0) k a few q

    pub period_at : at windowed (periods + k) ≡ (task_of tasks k).period
    period_at = windowed_at (periods + k) (task_of tasks k).period k h (λ j l d. let f = few in (λ e. d (omega arith), λ e. omega arith, λ e. omega arith, λ e. omega arith)) (λ a q. (numbers_of a q).period)

    pub start_at : at windowed (starts + k) ≡ (task_of tasks k).start
    start_at = windowed_at (starts + k) (task_of tasks k).start k h (λ j l d. let f = few in (λ e. omega arith, λ e. d (omega arith), λ e. omega arith, λ e. omega arith)) (λ a q. (numbers_of a q).start)

    pub end_at : at windowed (ends + k) ≡ (task_of tasks k).end
    end_at = windowed_at (ends + k) (task_of tasks k).end k h (λ j l d. let f = few in (λ e. omega arith, λ e. omega arith, λ e. d (omega arith), λ e. omega arith)) (λ a q. (numbers_of a q).end)

    pub count_at : at windowed (counts + k) ≡ get_or cs k 0
    count_at = windowed_at (counts + k) (get_or cs k 0) k h (λ j l d. let f = few in (λ e. omega arith, λ e. omega arith, λ e. omega arith, λ e. d (omega arith))) (λ a q. (numbers_of a q).count)

  -- a task that there is not has no instance
  pub count_beyond : (k : ℕ) → tasks.count ≤ k → k < most_tasks → at windowed (counts + k) ≡ 0
  unfolding windows_laid
  count_beyond k a b =
      loop_keeps (λ n. at n (counts + k) ≡ at (blank g.hyper) (counts + k)) tasks.count window (blank g.hyper)
      (λ j n h q. window_off (task_of tasks j) (get_or cs j 0) j n (counts + k) (λ e. omega arith) (λ e. omega arith) (λ e. omega arith) (λ e. omega arith) ∙ q) refl
      ∙ blank_zero g.hyper (counts + k) (omega arith) (inl (omega arith))

  -- ---- accesses: those of one kind, by one right, to signal r from `first` on

  module _ (kind right r first : ℕ) where
    abbrev placed : List ℕ → List ℕ
    placed = place_accesses kind grid cs right r first tasks.count

    abbrev begins : ℕ → ℕ
    begins k = first + uses_of grid cs right r k

    placed_long : (n : List ℕ) → length (placed n) ≡ length n
    unfolding place_accesses place_access
    placed_long n = sets_length (λ j. permits grid right j r) (λ j. cell kind j r) begins tasks.count n

    placed_off : r < most_signals → (n : List ℕ) (x : ℕ) → Beside kind cells x → at (placed n) x ≡ at n x
    unfolding place_accesses place_access
    placed_off h n x (inl b) = sets_off (λ j. permits grid right j r) (λ j. cell kind j r) begins tasks.count n x (λ j l t e. omega (arith, C.fits.few_tasks))
    placed_off h n x (inr b) = sets_off (λ j. permits grid right j r) (λ j. cell kind j r) begins tasks.count n x (λ j l t e. omega (arith, C.fits.few_tasks))

    -- the cell of task k and signal s
    placed_at : kind ≤ last_kind → r < most_signals → (s k : ℕ) → s < most_signals → k < most_tasks → (n : List ℕ) → Long n
        → at (placed n) (cell kind k s) ≡ cond (eqb r s && (ltb k tasks.count && permits grid right k s)) (first + uses_of grid cs right s k) (at n (cell kind k s))
    unfolding place_accesses place_access
    placed_at b a s k h l n z =
        split (eqb r s)
        (λ x. let y = eqb-true r s x in rw (← y, eq-eqb r r refl) (split (ltb k tasks.count && permits grid right k r)
        (λ t. let w = both (ltb k tasks.count) (permits grid right k r) t in
        rw t (sets_at (λ j. permits grid right j r) (λ j. cell kind j r) begins tasks.count n (cell kind k r) (begins k) (omega arith)
        (λ j q p i. let e : j ≡ k = omega arith in ap begins e) k (ltb-true k tasks.count w.0) w.1 refl))
        (λ t. rw t (sets_off (λ j. permits grid right j r) (λ j. cell kind j r) begins tasks.count n (cell kind k r)
        (λ j q p i. let e : j ≡ k = omega arith in not_both (and_is (lt-ltb k tasks.count (rw e at q)) (rw e at p)) t)))))
        (λ x. rw x (sets_off (λ j. permits grid right j r) (λ j. cell kind j r) begins tasks.count n (cell kind k s) (λ j q p i. eqb-false r s x (omega arith))))

  -- ---- uses

  module _ (r b first m : ℕ) where
    used_long : (n : List ℕ) → length (place_uses schedule r b first m n) ≡ length n
    unfolding place_uses
    used_long n = sets_length (λ j. true) (λ j. uses + (first + j)) (λ j. b + element_in schedule r (first + j)) m n

    used_off : first + m ≤ most_uses → (n : List ℕ) (x : ℕ) → Beside uses most_uses x → at (place_uses schedule r b first m n) x ≡ at n x
    unfolding place_uses
    used_off h n x (inl a) = sets_off (λ j. true) (λ j. uses + (first + j)) (λ j. b + element_in schedule r (first + j)) m n x (λ j l t e. omega arith)
    used_off h n x (inr a) = sets_off (λ j. true) (λ j. uses + (first + j)) (λ j. b + element_in schedule r (first + j)) m n x (λ j l t e. omega arith)

    used_at : (n : List ℕ) → Long n → (x : ℕ) → x < most_uses
        → at (place_uses schedule r b first m n) (uses + x) ≡ cond (leb first x && ltb x (first + m)) (b + element_in schedule r x) (at n (uses + x))
    unfolding place_uses
    used_at n z x h =
        split (leb first x && ltb x (first + m))
        (λ t. let w = both (leb first x) (ltb x (first + m)) t in
        let lo = leb-true first x w.0 in
        let hi = ltb-true x (first + m) w.1 in
        rw t (sets_at (λ j. true) (λ j. uses + (first + j)) (λ j. b + element_in schedule r (first + j)) m n (uses + x) (b + element_in schedule r x) (omega arith)
        (λ j q p i. let e : first + j ≡ x = omega arith in ap (λ y. b + element_in schedule r y) e) (x - first) (omega arith) refl (omega arith)))
        (λ t. rw t (sets_off (λ j. true) (λ j. uses + (first + j)) (λ j. b + element_in schedule r (first + j)) m n (uses + x)
        (λ j q p i. not_both (and_is (le-leb first x (omega arith)) (lt-ltb x (first + m) (omega arith))) t)))

  -- ---- one signal

  -- how many uses signal r has
  abbrev many : ℕ → ℕ
  many r = signal_uses grid cs tasks.count r

  -- where the accesses by a right begin: those of the writers first
  abbrev pub readers_from : ℕ → ℕ
  readers_from r = U r + uses_of grid cs 2 r tasks.count

  abbrev step : ℕ → List ℕ → List ℕ
  step = signal_laid grid cs schedule tasks.count

  -- a signal's uses end inside the list
  pub uses_end : (r : ℕ) → r < signals.count → U r + many r ≤ most_uses
  uses_end r h = omega (arith, used_next grid cs schedule tasks.count r, used_up grid cs schedule tasks.count signals.count (r + 1) (omega arith), all_used g C, C.fits.few_uses)

  step_long : (r : ℕ) (n : List ℕ) → Long n → Long (step r n)
  unfolding signal_laid signal_at
  step_long r n z =
      used_long r (B r) (U r) (many r) _ ∙ placed_long reads 1 r (readers_from r) _ ∙ placed_long writes 2 r (U r) _ ∙ length-set n (carried + r) (B r) ∙ z

  -- what a signal leaves
  step_off : (r : ℕ) → r < signals.count → (n : List ℕ) (x : ℕ) → Beside reads (cells + cells + most_uses + most_signals) x → at (step r n) x ≡ at n x
  unfolding signal_laid signal_at
  step_off r h n x o =
      used_off r (B r) (U r) (many r) (uses_end r h) _ x (side uses most_uses (omega arith) (omega arith) o)
      ∙ placed_off reads 1 r (readers_from r) one _ x (side reads cells (omega arith) (omega arith) o)
      ∙ placed_off writes 2 r (U r) one _ x (side writes cells (omega arith) (omega arith) o)
      ∙ set_off n (carried + r) x (B r) (λ e. other o e)
    where
      one : r < most_signals
      one = omega (arith, C.fits.few_signals)

      side : (part size : ℕ) → reads ≤ part → part + size ≤ held → Beside reads (cells + cells + most_uses + most_signals) x → Beside part size x
      side part size a b (inl c) = inl (omega arith)
      side part size a b (inr c) = inr (omega arith)

      other : Beside reads (cells + cells + most_uses + most_signals) x → x ≡ carried + r → ⊥
      other (inl c) e = omega (arith, one)
      other (inr c) e = omega (arith, one)

  module _ (r : ℕ) (h : r < signals.count) (n : List ℕ) (z : Long n) where
    one : r < most_signals
    one = omega (arith, C.fits.few_signals)

    step_writes : (s k : ℕ) → s < most_signals → k < most_tasks
        → at (step r n) (cell writes k s) ≡ cond (eqb r s && (ltb k tasks.count && permits grid 2 k s)) (U r + uses_of grid cs 2 s k) (at n (cell writes k s))
    unfolding signal_laid signal_at
    step_writes s k a b =
        used_off r (B r) (U r) (many r) (uses_end r h) _ (cell writes k s) (inl (omega arith))
        ∙ placed_off reads 1 r (readers_from r) one _ (cell writes k s) (inr (omega arith))
        ∙ placed_at writes 2 r (U r) (omega arith) one s k a b (set n (carried + r) (B r)) (length-set n (carried + r) (B r) ∙ z)
        ∙ ap (cond (eqb r s && (ltb k tasks.count && permits grid 2 k s)) (U r + uses_of grid cs 2 s k)) (set_off n (carried + r) (cell writes k s) (B r) (λ e. omega arith))

    step_reads : (s k : ℕ) → s < most_signals → k < most_tasks
        → at (step r n) (cell reads k s) ≡ cond (eqb r s && (ltb k tasks.count && permits grid 1 k s)) (readers_from r + uses_of grid cs 1 s k) (at n (cell reads k s))
    unfolding signal_laid signal_at
    step_reads s k a b =
        let n₁ = set n (carried + r) (B r) in
        let n₂ = place_accesses writes grid cs 2 r (U r) tasks.count n₁ in
        used_off r (B r) (U r) (many r) (uses_end r h) _ (cell reads k s) (inl (omega arith))
        ∙ placed_at reads 1 r (readers_from r) (omega arith) one s k a b n₂ (placed_long writes 2 r (U r) n₁ ∙ length-set n (carried + r) (B r) ∙ z)
        ∙ ap (cond (eqb r s && (ltb k tasks.count && permits grid 1 k s)) (readers_from r + uses_of grid cs 1 s k))
        (placed_off writes 2 r (U r) one n₁ (cell reads k s) (inl (omega arith)) ∙ set_off n (carried + r) (cell reads k s) (B r) (λ e. omega arith))

    step_uses : (x : ℕ) → x < most_uses → at (step r n) (uses + x) ≡ cond (leb (U r) x && ltb x (U r + many r)) (B r + element_in schedule r x) (at n (uses + x))
    unfolding signal_laid signal_at
    step_uses x a =
        let n₁ = set n (carried + r) (B r) in
        let n₂ = place_accesses writes grid cs 2 r (U r) tasks.count n₁ in
        let n₃ = place_accesses reads grid cs 1 r (readers_from r) tasks.count n₂ in
        used_at r (B r) (U r) (many r) n₃ (placed_long reads 1 r (readers_from r) n₂ ∙ placed_long writes 2 r (U r) n₁ ∙ length-set n (carried + r) (B r) ∙ z) x a
        ∙ ap (cond (leb (U r) x && ltb x (U r + many r)) (B r + element_in schedule r x))
        (placed_off reads 1 r (readers_from r) one n₂ (uses + x) (inr (omega arith)) ∙ placed_off writes 2 r (U r) one n₁ (uses + x) (inr (omega arith)) ∙ set_off n (carried + r) (uses + x) (B r) (λ e. omega arith))

    step_carried : (s : ℕ) → s < most_signals → at (step r n) (carried + s) ≡ cond (eqb r s) (B s) (at n (carried + s))
    unfolding signal_laid signal_at
    step_carried s a =
        used_off r (B r) (U r) (many r) (uses_end r h) _ (carried + s) (inr (omega arith))
        ∙ placed_off reads 1 r (readers_from r) one _ (carried + s) (inr (omega arith))
        ∙ placed_off writes 2 r (U r) one _ (carried + s) (inr (omega arith))
        ∙ split (eqb r s)
        (λ e. let y = eqb-true r s e in rw (y, eq-eqb s s refl) (get_or-set_same n (carried + s) (B s) 0 (omega arith)))
        (λ e. rw e (set_off n (carried + r) (carried + s) (B r) (λ i. eqb-false r s e (omega arith))))

  -- ---- all signals

  abbrev pub all : List ℕ
  all = laid g

  pub all_long : Long all
  unfolding laid
  all_long = loop_keeps Long signals.count step windowed (λ r n h q. step_long r n q) windowed_long

  pub all_off : (x : ℕ) → Beside reads (cells + cells + most_uses + most_signals) x → at all x ≡ at windowed x
  unfolding laid
  all_off x o = loop_keeps (λ n. at n x ≡ at windowed x) signals.count step windowed (λ r n h q. step_off r h n x o ∙ q) refl

  -- a cell, where the turn of its signal alone sets it
  cell_at : (x s v : ℕ) (b : Bool) → at windowed x ≡ none → ((r : ℕ) → r < signals.count → (n : List ℕ) → Long n → at (step r n) x ≡ cond (eqb r s && b) v (at n x))
      → at all x ≡ cond (ltb s signals.count && b) v none
  unfolding laid
  cell_at x s v b e f =
      loop_seen Long (λ n. at n x) (λ r y. cond (eqb r s && b) v y) signals.count step windowed (λ r n h q. (step_long r n q, f r h n q)) windowed_long
      ∙ ap (up_to signals.count (λ r y. cond (eqb r s && b) v y)) e
      ∙ split (ltb s signals.count)
      (λ l. rw l (loop_once signals.count (λ r y. cond (eqb r s && b) v y) none s (ltb-true s signals.count l) (λ r y h d. rw (ne_eqb r s d)) ∙ (rw (eq-eqb s s refl))))
      (λ l. rw l (loop_idle signals.count (λ r y. cond (eqb r s && b) v y) none (λ r y h. rw (ne_eqb r s (λ z. omega (arith, ltb-false s signals.count l))))))

  unset : (c : ℕ) → c < cells + cells → at windowed (reads + c) ≡ none
  unset c h = windowed_off (reads + c) (inr (omega arith)) ∙ blank_none g.hyper c h

  pub writes_at : (k s : ℕ) → k < most_tasks → s < most_signals → at all (cell writes k s) ≡ cond (ltb s signals.count && (ltb k tasks.count && permits grid 2 k s)) (U s + uses_of grid cs 2 s k) none
  writes_at k s h a =
      let e : reads + (cells + (k * most_signals + s)) ≡ cell writes k s = omega arith in
      cell_at (cell writes k s) s (U s + uses_of grid cs 2 s k) (ltb k tasks.count && permits grid 2 k s) (ap (at windowed) (sym e) ∙ unset (cells + (k * most_signals + s)) (omega arith))
      (λ r b n z. step_writes r b n z s k a h ∙ same r (at n (cell writes k s)))
    where
      same : (r y : ℕ) → cond (eqb r s && (ltb k tasks.count && permits grid 2 k s)) (U r + uses_of grid cs 2 s k) y ≡ cond (eqb r s && (ltb k tasks.count && permits grid 2 k s)) (U s + uses_of grid cs 2 s k) y
      same r y = split (eqb r s) (λ e. ap (λ i. cond (eqb r s && (ltb k tasks.count && permits grid 2 k s)) (U i + uses_of grid cs 2 s k) y) (eqb-true r s e)) (λ e. rw e)

  pub reads_at : (k s : ℕ) → k < most_tasks → s < most_signals → at all (cell reads k s) ≡ cond (ltb s signals.count && (ltb k tasks.count && permits grid 1 k s)) (readers_from s + uses_of grid cs 1 s k) none
  reads_at k s h a =
      let e : reads + (k * most_signals + s) ≡ cell reads k s = omega arith in
      cell_at (cell reads k s) s (readers_from s + uses_of grid cs 1 s k) (ltb k tasks.count && permits grid 1 k s) (ap (at windowed) (sym e) ∙ unset (k * most_signals + s) (omega arith))
      (λ r b n z. step_reads r b n z s k a h ∙ same r (at n (cell reads k s)))
    where
      same : (r y : ℕ) → cond (eqb r s && (ltb k tasks.count && permits grid 1 k s)) (readers_from r + uses_of grid cs 1 s k) y ≡ cond (eqb r s && (ltb k tasks.count && permits grid 1 k s)) (readers_from s + uses_of grid cs 1 s k) y
      same r y = split (eqb r s) (λ e. ap (λ i. cond (eqb r s && (ltb k tasks.count && permits grid 1 k s)) (readers_from i + uses_of grid cs 1 s k) y) (eqb-true r s e)) (λ e. rw e)

  pub use_at : (s x : ℕ) → s < signals.count → U s ≤ x → x < U s + many s → at all (uses + x) ≡ base E s + element_in schedule s x
  unfolding laid
  use_at s x h lo hi =
      let up = used_up grid cs schedule tasks.count in
      let next = used_next grid cs schedule tasks.count in
      let small : x < most_uses = omega (arith, uses_end s h) in
      loop_seen Long (λ n. at n (uses + x)) here signals.count step windowed (λ r n b q. (step_long r n q, step_uses r b n q x small)) windowed_long
      ∙ loop_once signals.count here (at windowed (uses + x)) s h (λ r y b d. split (ltb r s)
      (λ q. rw (le-ltb x (U r + many r) (omega (arith, next r, up s (r + 1) (omega (arith, ltb-true r s q))))) (split (leb (U r) x) (λ t. rw t) (λ t. rw t)))
      (λ q. rw (lt-leb (U r) x (omega (arith, next s, up r (s + 1) (omega (arith, ltb-false r s q)))))))
      ∙ rw (le-leb (U s) x lo, lt-ltb x (U s + many s) hi, base_is g C s)
    where
      here : ℕ → ℕ → ℕ
      here r y = cond (leb (U r) x && ltb x (U r + many r)) (B r + element_in schedule r x) y

  pub carried_at : (s : ℕ) → s < most_signals → at all (carried + s) ≡ cond (ltb s signals.count) (base E s) 0
  unfolding laid
  carried_at s a =
      loop_seen Long (λ n. at n (carried + s)) (λ r y. cond (eqb r s) (B s) y) signals.count step windowed (λ r n b q. (step_long r n q, step_carried r b n q s a)) windowed_long
      ∙ ap (up_to signals.count (λ r y. cond (eqb r s) (B s) y)) (windowed_off (carried + s) (inr (omega arith)) ∙ blank_zero g.hyper (carried + s) (omega arith) (inr (omega arith)))
      ∙ split (ltb s signals.count)
      (λ l. rw l (loop_once signals.count (λ r y. cond (eqb r s) (B s) y) 0 s (ltb-true s signals.count l) (λ r y h d. rw (ne_eqb r s d)) ∙ (rw (eq-eqb s s refl) (base_is g C s))))
      (λ l. rw l (loop_idle signals.count (λ r y. cond (eqb r s) (B s) y) 0 (λ r y h. rw (ne_eqb r s (λ z. omega (arith, ltb-false s signals.count l))))))

  -- ---- the block

  pub filled_is : filled g ≡ ((separate T E).filled (record { block = replicate words 0 })).block
  unfolding filled separate store_laid fill_elements put default_of
  filled_is =
      sym (loop_seen (λ (x : Memory). Unit {0}) (λ x. x.block) (store_laid grid cs schedule tasks.count signals.defaults) signals.count
      (λ s. up_to (E.count s) (λ e a. put a (seat E s e) (default_of T s))) (record { block = replicate words 0 }) (λ s x h u. (tt, elements s x)) tt)
    where
      elements : (s : ℕ) (x : Memory) → (up_to (E.count s) (λ e a. put a (seat E s e) (default_of T s)) x).block ≡ store_laid grid cs schedule tasks.count signals.defaults s x.block
      elements s x =
          rw (base_is g C s, count_is g C s)
          (loop_seen (λ (x : Memory). Unit {0}) (λ x. x.block) (λ e l. set l (base E s + e) (get_or signals.defaults s 0)) (E.count s) (λ e a. put a (seat E s e) (default_of T s)) x (λ e y h u. (tt, refl)) tt)
