-- A loading that the check accepts starts document 01's machine, which is fit. Assumes nothing.
use Prim.Native.Nat.{ℕ, ◌+◌, ◌-◌, ◌≤◌, ◌<◌}
use mathlib.Core.Path.{◌≡◌, refl, sym, ap, ◌∙◌}
use mathlib.Core.Bool.{Bool, true, false, ◌&&◌, cond}
use mathlib.Core.List.{List, map}
use mathlib.Core.Logic.{inl, inr}
use native.Mathlib.Omega.{arith}
use lib.Dec.{leb, ltb, eqb}
use lib.ListN.{length, get_or, set, replicate, length-replicate}
use borrow.Author.Tests.{ltb-true, ltb-false, lt-ltb, le-leb, le-ltb, ne_eqb, eq-eqb, eqb-true, eqb-false}
use Rattle.rules.specs.Words.{total, times}
use Rattle.rules.specs.Windows.{Table, instances, opens}
use Rattle.rules.specs.Values.{by, bound, signal_of}
use Rattle.rules.specs.Values as values
use Rattle.rules.specs.Table.{words, Fits, most_tasks, most_signals, most_uses, longest}
use Rattle.rules.specs.Schedule.{Schedule, element_of, base, Passes}
use Rattle.rules.specs.Numbers.{Told}
use Rattle.rules.specs.Reading.{writes_in, table_in}
use Rattle.rules.specs.Loading.{load_says, accepts}
use Rattle.rules.specs.Stores.{Memory, nowhere}
use Rattle.rules.specs.Machine.{Layout, separate, seat, loaded}
use Rattle.theory.proofs.Tests.{split, both, and_is, or_right, not_both, holds}
use Rattle.theory.proofs.Check.{every_is}
use Rattle.theory.proofs.Hyper.{hyper_pos}
use Rattle.theory.proofs.Time.{closes_le, instance_lt}
use Rattle.theory.proofs.Bound.{bound_value, bound_signal}
use Rattle.theory.proofs.Proved.{answers_as_meant}
use Rattle.theory.proofs.Checked.{check_sound}
use Rattle.theory.proofs.Loads.{both_accepted, load_accepts}
use Rattle.theory.proofs.Held.{getD_each, openings_sized}
use Rattle.theory.proofs.Separate.{seat_lt, passing_sound}
use Rattle.theory.proofs.Loops.{loop_keeps}
use Rattle.fields.proofs.Told.{told_exact}
use Rattle.state.specs.Parts.{at, none, cell, hyper, periods, counts, reads, writes, uses, carried, held, tick, numbers, positions}
use Rattle.state.specs.Parts as parts
use Rattle.state.specs.Fitness.{in_block, in_uses, access_fits, task_fits, tasks_fit, positions_fit}
use Rattle.state.specs.Fitness as fitness
use Rattle.state.specs.Rows.{use_of, released}
use Rattle.state.proofs.Frames.{set_off, set_either, fit_is, released_off, released_fit}
use Rattle.loading.specs.Laid.{permits, uses_of, element_in, place_access, place_accesses, place_uses, signal_uses, base_before, signal_at, signal_laid}
use Rattle.loading.proofs.Sums.{total_has, total_split, uses_next, uses_up}
use Rattle.machine.specs.declared.Machine.{Machine}
use Rattle.machine.specs.declared.Stepped.{Stepped}
use Rattle.machine.specs.Calls.{fit}
use Rattle.machine.specs.Started.{Given, tab, made, counted, laid, started, Checked}
use Rattle.machine.specs.Load.{given_by, load_leaves, Loads}
use Rattle.machine.proofs.Counted.{used, count_of, count_none, writers_of, readers_of, reads_is, base_is, writer_is, reader_is}
use Rattle.machine.proofs.Load.{checked, refused_stays}
use Rattle.simulation.specs.Simulates.{position_of, Accesses, Knows, Runs, outcome_said}
use Rattle.simulation.specs.Simulates as simulates
use Rattle.simulation.specs.Fit.{StaysFit}
use Rattle.simulation.specs.Loads.{StartsRight, AsMeant, LoadsRight, LoadsExact}
use Rattle.simulation.proofs.Fit.{step_fits, write_fits}
use Rattle.simulation.proofs.Follows.{opened_is, released_long, released_at}
use Rattle.simulation.proofs.Simulates.{stays_known, simulates_all}
use Rattle.simulation.proofs.Laid.{blank_loaded, blank_hyper, blank_zero, windowed, windowed_off, period_at, start_at, end_at, count_at, count_beyond, readers_from, uses_end, all_long, all_off, writes_at, reads_at, use_at, carried_at, filled_is}

-- what is needed of the accesses of one kind: which right they are by, where those to signal s begin, and which element each use has
pub record Side (g : Given) (C : Checked g) (kind right : ℕ) (first : ℕ → ℕ) (allowed : ℕ → ℕ → Bool) (element : ℕ → ℕ → ℕ → ℕ) : Type 0 where
  pub same : (k s : ℕ) → permits g.grid right k s ≡ allowed s k
  pub from : (s : ℕ) → used g s ≤ first s
  pub to : (s : ℕ) → first s + uses_of g.grid (counted g) right s g.tasks.count ≤ used g s + signal_uses g.grid (counted g) g.tasks.count s
  pub elements : (s k i : ℕ) → k < g.tasks.count → element_in g.schedule s (first s + uses_of g.grid (counted g) right s k + i) ≡ element s k i
  pub cells_are : (k s : ℕ) → k < most_tasks → s < most_signals
      → at (laid g) (cell kind k s) ≡ cond (ltb s g.signals.count && (ltb k g.tasks.count && permits g.grid right k s)) (first s + uses_of g.grid (counted g) right s k) none

module _ (g : Given) (C : Checked g) where
  open g use {tasks, signals, grid, schedule}

  abbrev T : Table
  T = tab g

  abbrev E : Schedule
  E = made g

  abbrev L : Layout
  L = separate T E

  abbrev cs : List ℕ
  cs = counted g

  abbrev U : ℕ → ℕ
  U = used g

  abbrev n : List ℕ
  n = laid g

  F : Fits T
  F = C.fits

  -- how many uses signal s has
  abbrev many : ℕ → ℕ
  many = signal_uses grid cs tasks.count

  -- how many instances task k has
  counted_at : (k : ℕ) → k < most_tasks → at n (counts + k) ≡ get_or cs k 0
  counted_at k h =
      all_off g C (counts + k) (inl (omega arith)) ∙ split (ltb k tasks.count)
      (λ e. count_at g C k (ltb-true k tasks.count e))
      (λ e. let b = ltb-false k tasks.count e in count_beyond g C k b h ∙ sym (count_none g C k b))

  module _ (kind right : ℕ) (first : ℕ → ℕ) (allowed : ℕ → ℕ → Bool) (element : ℕ → ℕ → ℕ → ℕ) (X : Side g C kind right first allowed element) where
    abbrev begins : ℕ → ℕ → ℕ
    begins k s = first s + uses_of grid cs right s k

    -- the uses of an access that is there end before the signal's do
    end_of : (k s : ℕ) → k < tasks.count → allowed s k ≡ true → begins k s + get_or cs k 0 ≤ U s + many s
    end_of k s h w = omega (arith, X.to s, uses_up grid cs right s tasks.count (k + 1) (omega arith), uses_next grid cs right s k, ap (λ b. times b (get_or cs k 0)) (X.same k s ∙ w))

    cell_is : (k s : ℕ) → k < most_tasks → s < most_signals → at n (cell kind k s) ≡ cond (ltb s signals.count && (ltb k tasks.count && allowed s k)) (begins k s) none
    cell_is k s h a = X.cells_are k s h a ∙ ap (λ b. cond (ltb s signals.count && (ltb k tasks.count && b)) (begins k s) none) (X.same k s)

    -- the cell of an access that is there
    cell_there : (k s : ℕ) → simulates.permits T allowed k s ≡ true → (k < tasks.count) × (s < signals.count) × (allowed s k ≡ true) × (at n (cell kind k s) ≡ begins k s)
    cell_there k s p =
        let (a, w) = both (ltb k tasks.count && ltb s signals.count) (allowed s k) p in
        let (b, d) = both (ltb k tasks.count) (ltb s signals.count) a in
        let h = ltb-true k tasks.count b in
        let r = ltb-true s signals.count d in
        (h, r, w, cell_is k s (omega (arith, F.few_tasks)) (omega (arith, F.few_signals)) ∙ (rw (b, d, w)))

    cell_none : (k s : ℕ) → k < most_tasks → s < most_signals → simulates.permits T allowed k s ≡ false → at n (cell kind k s) ≡ none
    cell_none k s h a p =
        cell_is k s h a ∙ split (ltb k tasks.count)
        (λ x. split (ltb s signals.count)
        (λ y. split (allowed s k) (λ w. absurd (not_both (rw (x, y, w)) p)) (λ w. rw (x, y, w)))
        (λ y. rw y))
        (λ x. rw x (split (ltb s signals.count) (λ y. rw y) (λ y. rw y)))

    accesses_are : Accesses T allowed (λ s k i. seat E s (element s k i)) kind n
    unfolding use_of
    accesses_are =
        record {
          exact = λ k s h a. split (simulates.permits T allowed k s)
              (λ p. let (x, y, w, b) = cell_there k s p in rw (p, b) (ne_eqb (begins k s) none (λ z. omega (arith, end_of k s x w, uses_end g C s y))))
              (λ p. rw (p, cell_none k s h a p));
          stands = λ s k i p h.
              let (x, y, w, b) = cell_there k s p in
              let z : get_or cs k 0 ≡ instances T k = count_of g C k x in
              let q = end_of k s x w in
              rw (
                b,
                lt-ltb (begins k s + i) most_uses (omega (arith, uses_end g C s y)),
                use_at g C s (begins k s + i) y (omega (arith, X.from s)) (omega arith),
                X.elements s k i x,
              );
        }

    -- each access has room for its uses
    access_fits_lem : (k s : ℕ) → k < most_tasks → s < most_signals → access_fits (at n (counts + k)) (at n (cell kind k s)) ≡ true
    access_fits_lem k s h a =
        rw (counted_at k h) (split (simulates.permits T allowed k s)
        (λ p. let (x, y, w, b) = cell_there k s p in
        let some : 0 < get_or cs k 0 = omega (arith, count_of g C k x, instance_lt T F k 0 x (hyper_pos T F)) in
        let end = end_of k s x w in
        rw b (or_right (eqb (begins k s) none) (in_uses (get_or cs k 0) (begins k s))
        (and_is (lt-ltb (begins k s) most_uses (omega (arith, uses_end g C s y))) (le-leb (begins k s + get_or cs k 0) most_uses (omega (arith, uses_end g C s y))))))
        (λ p. rw (cell_none k s h a p)))

    -- each use of a signal is one of an instance, so inside the store if those are
    uses_inside : ((s k i : ℕ) → s < signals.count → k < tasks.count → allowed s k ≡ true → i < instances T k → base E s + element s k i < words)
        → (s j : ℕ) → s < signals.count → j < uses_of grid cs right s tasks.count → base E s + element_in schedule s (first s + j) < words
    unfolding uses_of
    uses_inside inside s j h l =
        let (k, i, a, b, c) = total_split (λ k. times (permits grid right k s) (get_or cs k 0)) tasks.count j l in
        let (p, q) = counted_there (permits grid right k s) (get_or cs k 0) i b in
        let z : first s + j ≡ first s + total (λ k. times (permits grid right k s) (get_or cs k 0)) k + i = omega arith in
        rw (z, X.elements s k i a) (inside s k i h a (sym (X.same k s) ∙ p) (omega (arith, count_of g C k a)))
      where
        counted_there : (b : Bool) (c i : ℕ) → i < times b c → (b ≡ true) × (i < c)
        counted_there true c i h = (refl, h)
        counted_there false c i h = absurd (omega arith)

  -- ---- both kinds

  writers : Side g C writes 2 U T.writes E.writer
  unfolding writes_in
  writers =
      record {
        same = λ k s. refl;
        from = λ s. omega arith;
        to = λ s. omega arith;
        elements = λ s k i h. rw (writers_of g C s k (omega arith)) (writer_is g C s k i);
        cells_are = writes_at g C;
      }

  readers : Side g C reads 1 (readers_from g C) T.reads E.reader
  readers =
      record {
        same = λ k s. reads_is g C s k;
        from = λ s. omega arith;
        to = λ s. omega arith;
        elements = λ s k i h. rw (writers_of g C s tasks.count (omega arith), readers_of g C s k (omega arith)) (reader_is g C s k i);
        cells_are = reads_at g C;
      }

  -- ---- what loading writes is known

  knows : Knows T L n
  unfolding separate
  knows =
      record {
        hyper_is = all_off g C hyper (inl (omega arith)) ∙ windowed_off g C hyper (inl (omega arith)) ∙ blank_hyper g.hyper ∙ C.hyper_is;
        periods_are = λ k h. all_off g C (periods + k) (inl (omega (arith, F.few_tasks))) ∙ period_at g C k h;
        starts_are = λ k h. all_off g C (parts.starts + k) (inl (omega (arith, F.few_tasks))) ∙ start_at g C k h;
        ends_are = λ k h. all_off g C (parts.ends + k) (inl (omega (arith, F.few_tasks))) ∙ end_at g C k h;
        counts_are = λ k h. counted_at k (omega (arith, F.few_tasks)) ∙ count_of g C k h;
        no_task = λ k a h. counted_at k h ∙ count_none g C k a;
        reads_are = accesses_are reads 1 (readers_from g C) T.reads E.reader readers;
        writes_are = accesses_are writes 2 U T.writes E.writer writers;
        carried_are = λ s h. carried_at g C s (omega (arith, F.few_signals)) ∙ rw (lt-ltb s signals.count h) (omega arith);
        none_carried = λ s a h. carried_at g C s h ∙ rw (le-ltb s signals.count a);
      }

  -- ---- and fit

  module _ (A : Passes T E) where
    written_inside : (s k i : ℕ) → s < signals.count → k < tasks.count → T.writes s k ≡ true → i < instances T k → base E s + E.writer s k i < words
    written_inside s k i h a w l = seat_lt T E A s (E.writer s k i) h (A.below (by s k i) (h, a, holds w, l))

    read_inside : (s k i : ℕ) → s < signals.count → k < tasks.count → T.reads s k ≡ true → i < instances T k → base E s + E.reader s k i < words
    read_inside s k i h a w l =
        let v = bound T s (opens T k i) in
        let below = A.below v (bound_value T F s h (opens T k i) (omega (arith, closes_le T F k i a l, F.window k a))) in
        rw (A.binds s k i h a (holds w) l) (seat_lt T E A s (element_of E v) h (rw (bound_signal T s (opens T k i)) at below))

    carried_inside : (s : ℕ) → s < signals.count → base E s < words
    carried_inside s h = omega (arith, seat_lt T E A s 0 h (A.below (values.carried s) h))

    -- the use after j others of signal s
    use_inside : (s j : ℕ) → s < signals.count → j < many s → base E s + element_in schedule s (U s + j) < words
    use_inside s j h l =
        let w = uses_of grid cs 2 s tasks.count in
        split (ltb j w)
        (λ x. uses_inside writes 2 U T.writes E.writer writers written_inside s j h (ltb-true j w x))
        (λ x.
        let y = ltb-false j w x in
        let z : U s + j ≡ U s + w + (j - w) = omega arith in
        rw z (uses_inside reads 1 (readers_from g C) T.reads E.reader readers read_inside s (j - w) h (omega arith)))

    -- each position is inside the block
    abbrev Inside : List ℕ → Type 0
    Inside a = (k : ℕ) → k < positions → in_block (at a (uses + k)) ≡ true

    set_inside : (a : List ℕ) (x v : ℕ) → v < words → Inside a → Inside (set a x v)
    set_inside a x v h q k l = set_either (λ y. in_block y ≡ true) a x (uses + k) v (lt-ltb v words h) (q k l)

    set_beside : (a : List ℕ) (x v : ℕ) → x < uses → Inside a → Inside (set a x v)
    set_beside a x v h q k l = ap in_block (set_off a x (uses + k) v (λ e. omega arith)) ∙ q k l

    placed_inside : (kind right r first : ℕ) → kind ≤ parts.last_kind → r < most_signals → (a : List ℕ) → Inside a → Inside (place_accesses kind grid cs right r first tasks.count a)
    unfolding place_accesses place_access
    placed_inside kind right r first b h a q =
        loop_keeps Inside tasks.count (λ k. place_access kind grid right r (first + uses_of grid cs right r k) k) a
        (λ k x l y. split (permits grid right k r) (λ e. rw e (set_beside x (cell kind k r) (first + uses_of grid cs right r k) (omega (arith, F.few_tasks)) y)) (λ e. rw e y)) q

    signal_inside : (s : ℕ) (a : List ℕ) → s < signals.count → Inside a → Inside (signal_laid grid cs schedule tasks.count s a)
    unfolding signal_laid signal_at place_uses
    signal_inside s a h q =
        let one : s < most_signals = omega (arith, F.few_signals) in
        let b = base_before grid cs schedule tasks.count s in
        loop_keeps Inside (many s) (λ j x. set x (uses + (U s + j)) (b + element_in schedule s (U s + j))) _
        (λ j x l y. set_inside x (uses + (U s + j)) (b + element_in schedule s (U s + j)) (rw (base_is g C s) (use_inside s j h l)) y)
        (placed_inside reads 1 s (readers_from g C s) (omega arith) one _
        (placed_inside writes 2 s (U s) (omega arith) one _
        (set_inside a (carried + s) b (rw (base_is g C s) (carried_inside s h)) q)))

    all_inside : Inside n
    unfolding laid
    all_inside =
        loop_keeps Inside signals.count (signal_laid grid cs schedule tasks.count) (windowed g C) signal_inside
        (λ k h. ap in_block (windowed_off g C (uses + k) (inr (omega arith)) ∙ blank_zero g.hyper (uses + k) (omega arith) (inr (omega arith))))

    few : (k : ℕ) → get_or cs k 0 ≤ most_uses
    few k = split (ltb k tasks.count)
        (λ x. let h = ltb-true k tasks.count x in omega (arith, count_of g C k h, total_has (instances T) tasks.count k h, F.few_instances))
        (λ x. omega (arith, count_none g C k (ltb-false k tasks.count x)))

    positive : 0 < g.hyper
    positive = omega (arith, C.hyper_is, hyper_pos T F)

    tick_at : at n tick ≡ 0
    tick_at = all_off g C tick (inr (omega arith)) ∙ windowed_off g C tick (inr (omega arith)) ∙ blank_zero g.hyper tick (omega arith) (inr (omega arith))

    task_fits_lem : (k : ℕ) → k < most_tasks → task_fits n k ≡ true
    unfolding task_fits
    task_fits_lem k a =
        let c : leb (at n (counts + k)) most_uses ≡ true = rw (counted_at k a) (le-leb (get_or cs k 0) most_uses (few k)) in
        and_is c (every_is most_signals _ (λ s b.
        and_is (access_fits_lem reads 1 (readers_from g C) T.reads E.reader readers k s a b) (access_fits_lem writes 2 U T.writes E.writer writers k s a b)))

    all_fit : fitness.fit n ≡ true
    unfolding tasks_fit positions_fit
    all_fit =
        let l : at n parts.loaded ≡ 1 = all_off g C parts.loaded (inl (omega arith)) ∙ windowed_off g C parts.loaded (inl (omega arith)) ∙ blank_loaded g.hyper in
        let h : at n hyper ≡ g.hyper = all_off g C hyper (inl (omega arith)) ∙ windowed_off g C hyper (inl (omega arith)) ∙ blank_hyper g.hyper in
        fit_is n (record {
          runs = rw (l, h, tick_at) (and_is (and_is (and_is refl (le-leb 1 g.hyper positive)) (le-leb g.hyper longest (omega (arith, C.hyper_is, F.hyper_short)))) (lt-ltb 0 g.hyper positive));
          tasks = every_is most_tasks (task_fits n) task_fits_lem;
          positions = every_is positions _ all_inside;
        })

    -- ---- the state

    -- the carried values stand
    abbrev N : List ℕ
    N = released n

    released_same : (k : ℕ) → k < held → at N k ≡ at n k
    released_same k h = released_off n k (λ s a e. omega arith)

    first : (s : ℕ) → s < most_signals → at N (held + s) ≡ at n (carried + s)
    first s h = released_at n (all_long g C) s h

    abbrev block : Memory
    block = record { block = replicate words 0 }

    filled_long : length (L.filled block).block ≡ words
    filled_long = (passing_sound T F E A).filled_sized block (length-replicate {A = ℕ} words 0)

    runs_started : Runs T L (loaded T L) (started g)
    unfolding started loaded
    runs_started =
        let K = stays_known T F n N released_same L knows in
        let now : at N tick ≡ 0 = released_off n tick (λ s a e. omega arith) ∙ tick_at in
        rw (filled_is g C) (record {
          fits = released_fit n all_fit;
          long = released_long n (all_long g C);
          knows = K;
          defaults_are = λ s h. refl;
          tick_is = now;
          held_are = λ s h. first s (omega (arith, F.few_signals)) ∙ knows.carried_are s h ∙ ap position_of (sym (getD_each signals.count (λ r. L.place (values.carried r)) s nowhere h));
          nothing_held = λ s a h. first s h ∙ knows.none_carried s a h;
          store_is = opened_is T L F N K 0 now (hyper_pos T F) signals.defaults (λ s h. refl) (L.filled block) filled_long;
          store_long = openings_sized T L 0 (L.filled block) filled_long;
        })

pub starts_right : (g : Given) → StartsRight g
starts_right g F h accepted = runs_started g (checked g F h accepted) (check_sound (tab g) g.schedule accepted).1

pub as_meant : (g : Given) → AsMeant g
as_meant g F h accepted cs =
    let L = separate (tab g) (made g) in
    let A = (check_sound (tab g) g.schedule accepted).1 in
    simulates_all (tab g) L F (loaded (tab g) L) (started g) (starts_right g F h accepted) cs ∙ ap (map outcome_said) (answers_as_meant (tab g) F (made g) A cs)

-- ---- from bytes

pub loads_exact : (m : Machine) (table schedule : List ℕ) → LoadsExact m table schedule
loads_exact m table schedule a b f g =
    λ i. record {
      answer = told_exact a.answer b.answer (f.0 ∙ sym g.0) i;
      machine = (f.1 ∙ sym g.1) i;
    }

pub loads_right : (m : Machine) (table schedule : List ℕ) → LoadsRight m table schedule
unfolding load_leaves table_in
loads_right m table schedule e = rw e (starts_right (given_by table schedule) (load_accepts table schedule e).0 refl (both_accepted table schedule e).1)

-- an accepted loading gives a fit state whatever it was loaded into, a refused one leaves it
pub stays_fit : (m : Machine) → StaysFit m
stays_fit m =
    record {
      step = step_fits m;
      write = write_fits m;
      load = λ table schedule r g f.
          split (accepts table schedule)
          (λ q. starts_fit table schedule r g (eqb-true (load_says table schedule).number 0 q))
          (λ q. rw (g.1 ∙ refused_stays table schedule m (eqb-false (load_says table schedule).number 0 q)) f);
      accepted = λ table schedule r g done. starts_fit table schedule r g (sym (ap (λ (t : Told). t.number) g.0) ∙ done);
    }
  where
    starts_fit : (table schedule : List ℕ) (r : Stepped) → Loads m table schedule r → (load_says table schedule).number ≡ 0 → fit r.machine ≡ true
    starts_fit table schedule r g e = rw g.1 (loads_right m table schedule (eq-eqb (load_says table schedule).number 0 e)).fits
