-- Fit and unfit states: 25 exactly on the unfit ones, a fit state stays fit, nothing in it leads outside, a refusal leaves the state. Assumes nothing.
use Rattle.std.specs.Prelude.{Result, Ok, Err}
use Prim.Native.Nat.{ℕ, ◌+◌, ◌-◌, ◌<◌}
use mathlib.Core.Path.{◌≡◌, refl}
use mathlib.Core.Bool.{true, false, ◌&&◌}
use mathlib.Core.List.{List}
use native.Mathlib.Omega.{arith}
use lib.Dec.{leb, ltb, eqb}
use lib.ListN.{replicate}
use mathlib.Core.Logic.{◌⊎◌, inl, inr}
use borrow.Author.Tests.{leb-true, le-leb, ltb-true, ltb-false, lt-ltb, eqb-true, eq-eqb}
use Rattle.rules.specs.Words.{when}
use Rattle.rules.specs.Table.{most_tasks, most_signals, most_uses, words, longest}
use Rattle.rules.specs.declared.Refusal.{Refusal}
use Rattle.theory.proofs.Tests.{split, both, and_is, or_cases, or_left, or_right}
use Rattle.theory.proofs.Check.{every_at, every_is}
use Rattle.state.specs.Parts.{at, none, cell, loaded, hyper, counts, reads, writes, uses, carried, held, tick, numbers, positions}
use Rattle.state.specs.Fitness.{access_fits, in_uses, task_fits, tasks_fit, positions_fit}
use Rattle.state.specs.Fitness as fitness
use Rattle.state.specs.Rows.{use_of, published, place_of}
use Rattle.state.proofs.Sets.{alike}
use Rattle.state.proofs.Places.{place_cases}
use Rattle.state.proofs.Frames.{fit_has, fit_is, position_in, use_in, published_fit, advanced_fit}
use Rattle.machine.specs.declared.Machine.{Machine}
use Rattle.machine.specs.Calls.{fit, unloaded, step_in, read_at, read_in, written_at, write_in, step_of, write_of}
use Rattle.simulation.specs.Fit.{AccessInside, IsFit, FitExactly, UnfitExact, UsesInside, LeadsInside, RefusedLeaves}

-- what is all zero is not marked as loaded
zeros_unfit : (n : List ℕ) → at n loaded ≡ 0 → fitness.fit n ≡ false
unfolding fitness.fit
zeros_unfit n e = rw e

pub unloaded_unfit : fit unloaded ≡ false
unloaded_unfit = zeros_unfit (replicate numbers 0) (alike numbers loaded 0)

-- ---- nothing leads outside

module _ (n : List ℕ) (f : fitness.fit n ≡ true) where
  -- both accesses of a task to a signal
  accesses : (t s : ℕ) → t < most_tasks → s < most_signals
      → (access_fits (at n (counts + t)) (at n (cell reads t s)) ≡ true) × (access_fits (at n (counts + t)) (at n (cell writes t s)) ≡ true)
  unfolding tasks_fit task_fits
  accesses t s h a =
      let task = every_at most_tasks (task_fits n) (fit_has n f).tasks t h in
      let row = (both (leb (at n (counts + t)) most_uses) _ task).1 in
      both (access_fits (at n (counts + t)) (at n (cell reads t s))) _ (every_at most_signals _ row s a)

  uses_inside : (kind : ℕ) → ((t s : ℕ) → t < most_tasks → s < most_signals → access_fits (at n (counts + t)) (at n (cell kind t s)) ≡ true) → UsesInside kind n
  uses_inside kind fits t i s h a l b =
      let first = at n (cell kind t s) in
      let access = fits t s h a in
      let inside : in_uses (at n (counts + t)) first ≡ true = (rw l at access) in
      let end = leb-true (first + at n (counts + t)) most_uses (both (ltb first most_uses) _ inside).1 in
      (omega arith, ltb-true (use_of n kind t i s) words (use_in n f kind t i s))

pub leads_inside : (m : Machine) → fit m ≡ true → LeadsInside m
leads_inside m f =
    let n = m.numbers in
    record {
      reading = uses_inside n f reads (λ t s h a. (accesses n f t s h a).0);
      writing = uses_inside n f writes (λ t s h a. (accesses n f t s h a).1);
      elements = λ s h. ltb-true (at n (carried + s)) words (position_in n f (carried + s) (omega arith) (omega arith));
      published = λ s h. ltb-true (at n (held + s)) words (position_in n f (held + s) (omega arith) (omega arith));
    }

-- ---- fit, in document 01's words

access_inside : (count first : ℕ) → access_fits count first ≡ true → AccessInside count first
access_inside count first e = go (or_cases (eqb first none) (in_uses count first) e)
  where
    go : (eqb first none ≡ true) ⊎ (in_uses count first ≡ true) → AccessInside count first
    go (inl a) = inl (eqb-true first none a)
    go (inr b) = let d = both (ltb first most_uses) (leb (first + count) most_uses) b in inr (ltb-true first most_uses d.0, leb-true (first + count) most_uses d.1)

inside_access : (count first : ℕ) → AccessInside count first → access_fits count first ≡ true
inside_access count first (inl e) = or_left (eqb first none) (in_uses count first) (eq-eqb first none e)
inside_access count first (inr (a, b)) = or_right (eqb first none) (in_uses count first) (and_is (lt-ltb first most_uses a) (le-leb (first + count) most_uses b))

module _ (n : List ℕ) where
  is_fit : fitness.fit n ≡ true → IsFit n
  unfolding tasks_fit task_fits
  is_fit f =
      let F = fit_has n f in
      let (a, below) = both (eqb (at n loaded) 1 && leb 1 (at n hyper) && leb (at n hyper) longest) _ F.runs in
      let (b, short) = both (eqb (at n loaded) 1 && leb 1 (at n hyper)) _ a in
      let (marked, some) = both (eqb (at n loaded) 1) _ b in
      record {
        marked = eqb-true (at n loaded) 1 marked;
        lasting = (leb-true 1 (at n hyper) some, leb-true (at n hyper) longest short);
        within = ltb-true (at n tick) (at n hyper) below;
        instances = λ t h. leb-true (at n (counts + t)) most_uses (both (leb (at n (counts + t)) most_uses) _ (every_at most_tasks (task_fits n) F.tasks t h)).0;
        reading = λ t s h a. access_inside (at n (counts + t)) (at n (cell reads t s)) (accesses n f t s h a).0;
        writing = λ t s h a. access_inside (at n (counts + t)) (at n (cell writes t s)) (accesses n f t s h a).1;
        used = λ k h. ltb-true (at n (uses + k)) words (position_in n f (uses + k) (omega arith) (omega arith));
        elements = λ s h. ltb-true (at n (carried + s)) words (position_in n f (carried + s) (omega arith) (omega arith));
        published = λ s h. ltb-true (at n (held + s)) words (position_in n f (held + s) (omega arith) (omega arith));
      }

  fit_if : IsFit n → fitness.fit n ≡ true
  unfolding tasks_fit task_fits positions_fit
  fit_if I =
      fit_is n (record {
        runs = and_is (and_is (and_is (eq-eqb (at n loaded) 1 I.marked) (le-leb 1 (at n hyper) I.lasting.0)) (le-leb (at n hyper) longest I.lasting.1)) (lt-ltb (at n tick) (at n hyper) I.within);
        tasks = every_is most_tasks (task_fits n) (λ t h. and_is (le-leb (at n (counts + t)) most_uses (I.instances t h)) (every_is most_signals _ (λ s a.
            and_is (inside_access (at n (counts + t)) (at n (cell reads t s)) (I.reading t s h a)) (inside_access (at n (counts + t)) (at n (cell writes t s)) (I.writing t s h a)))));
        positions = every_is positions _ (λ k h. lt-ltb (at n (uses + k)) words (position k h));
      })
    where
      position : (k : ℕ) → k < positions → at n (uses + k) < words
      position k h =
          split (ltb k most_uses)
          (λ e. I.used k (ltb-true k most_uses e))
          (λ e. let a = ltb-false k most_uses e in split (ltb k (most_uses + most_signals))
          (λ d. let z : uses + k ≡ carried + (k - most_uses) = omega arith in rw z (I.elements (k - most_uses) (omega (arith, ltb-true k (most_uses + most_signals) d))))
          (λ d. let b = ltb-false k (most_uses + most_signals) d in
          let z : uses + k ≡ held + (k - (most_uses + most_signals)) = omega arith in rw z (I.published (k - (most_uses + most_signals)) (omega arith))))

pub fit_exactly : (m : Machine) → FitExactly m
fit_exactly m = (is_fit m.numbers, fit_if m.numbers)

module _ (m : Machine) where
  abbrev n : List ℕ
  n = m.numbers

  abbrev s : List ℕ
  s = m.store

  -- ---- a fit state stays fit

  pub step_fits : fit m ≡ true → fit (step_of m).machine ≡ true
  unfolding step_in when
  step_fits f = rw f (advanced_fit (published n) s (published_fit n f))

  written_fits : (word : ℕ) (p : Result ℕ Refusal) → fitness.fit n ≡ true → fitness.fit (written_at n s word p).numbers ≡ true
  written_fits word (Ok p) f = f
  written_fits word (Err e) f = f

  pub write_fits : (task signal word : ℕ) → fit m ≡ true → fit (write_of m task signal word).machine ≡ true
  unfolding write_in when
  write_fits task signal word f = rw f (written_fits word (place_of n writes task signal) f)

  -- ---- a fit state's answers are others than Unfit

  done_fit : ◌≡◌ {A = Result ℕ Refusal} (Ok 0) (Err Refusal.Unfit) → ⊥
  done_fit e = let z : ◌≡◌ {A = ℕ} 0 1 = cc in omega arith

  no_access_fit : ◌≡◌ {A = Result ℕ Refusal} (Err Refusal.NoAccess) (Err Refusal.Unfit) → ⊥
  no_access_fit e = let z : ◌≡◌ {A = ℕ} 0 1 = cc in omega arith

  outside_fit : ◌≡◌ {A = Result ℕ Refusal} (Err Refusal.Outside) (Err Refusal.Unfit) → ⊥
  outside_fit e = let z : ◌≡◌ {A = ℕ} 0 1 = cc in omega arith

  read_fit : (task signal : ℕ) → (read_at s (place_of n reads task signal)).answer ≡ (Err Refusal.Unfit) → ⊥
  read_fit task signal = place_cases (λ p. (read_at s p).answer ≡ (Err Refusal.Unfit) → ⊥) (λ p. done_fit) no_access_fit outside_fit n reads task signal

  write_fit : (word task signal : ℕ) → (written_at n s word (place_of n writes task signal)).answer ≡ (Err Refusal.Unfit) → ⊥
  write_fit word task signal = place_cases (λ p. (written_at n s word p).answer ≡ (Err Refusal.Unfit) → ⊥) (λ p. done_fit) no_access_fit outside_fit n writes task signal

  pub unfit_exact : UnfitExact m
  unfolding step_in read_in write_in when
  unfit_exact =
      record {
        step = (λ h. split (fit m) (λ f. absurd (done_fit (rw f at h))) (λ f. f), λ f. rw f);
        read = λ task signal. (λ h. split (fit m) (λ f. absurd (read_fit task signal (rw f at h))) (λ f. f), λ f. rw f);
        write = λ task signal word. (λ h. split (fit m) (λ f. absurd (write_fit word task signal (rw f at h))) (λ f. f), λ f. rw f);
      }

  -- ---- refusals

  read_none : (p : Result ℕ Refusal) → ((read_at s p).answer ≡ Ok 0 → ⊥) → (read_at s p).word ≡ 0
  read_none (Ok p) h = absurd (h refl)
  read_none (Err e) h = refl

  write_none : (word : ℕ) (p : Result ℕ Refusal) → ((written_at n s word p).answer ≡ Ok 0 → ⊥) → ((written_at n s word p).numbers ≡ n) × ((written_at n s word p).store ≡ s)
  write_none word (Ok p) h = absurd (h refl)
  write_none word (Err e) h = (refl, refl)

  pub refused_leaves : RefusedLeaves m
  unfolding step_in read_in write_in when
  refused_leaves =
      record {
        step = λ h. split (fit m) (λ f. absurd (h (rw f))) (λ f. rw f);
        read = λ task signal h. split (fit m) (λ f. rw f (read_none (place_of n reads task signal) (rw f at h))) (λ f. rw f);
        write = λ task signal word h.
            split (fit m)
            (λ f. rw f (let e = write_none word (place_of n writes task signal) (rw f at h) in rw (e.0, e.1)))
            (λ f. rw f);
      }
