-- The code's calls follow document 01's machine. Assumes nothing.
use Rattle.std.specs.Prelude.{Result, Ok, Err}
use Prim.Native.Nat.{ℕ, suc, ◌+◌, ◌≤◌, ◌<◌}
use mathlib.Core.Path.{◌≡◌, refl, sym, ap, ap₂, ◌∙◌}
use mathlib.Core.Bool.{Bool, true, not, ◌&&◌, cond}
use mathlib.Core.List.{List, [], ◌∷◌}
use native.Mathlib.Omega.{arith}
use native.Mathlib.Numerals.{add-one}
use lib.Dec.{leb, ltb, eqb}
use lib.ListN.{length, set, length-set}
use lib.Seq.{get_or-set_same}
use borrow.Author.Tests.{ltb-true, lt-leb, leb-false}
use Rattle.rules.specs.Words.{when}
use Rattle.rules.specs.Windows.{Table, instance, is_open, hyper}
use Rattle.rules.specs.Values.{carried, by}
use Rattle.rules.specs.Table.{words, Fits, most_tasks, most_signals, most_uses}
use Rattle.rules.specs.Numbers.{no_access}
use Rattle.rules.specs.Meaning.{Content, step, read, write, judged}
use Rattle.rules.specs.Stores.{get, put, nowhere, word_in}
use Rattle.rules.specs.Stores as stores
use Rattle.rules.specs.Machine.{State, Layout, memory, answer, after, answers}
use Rattle.rules.specs.Machine as rules
use Rattle.theory.proofs.Tests.{split, both}
use Rattle.theory.proofs.Time.{instance_lt}
use Rattle.theory.proofs.Hyper.{hyper_pos}
use Rattle.theory.proofs.Memory.{put_sized}
use Rattle.theory.proofs.Held.{getD_each, openings_sized, copied_sized}
use Rattle.state.specs.Parts.{at, cell, reads, writes, uses, held, tick, numbers}
use Rattle.state.specs.Parts as parts
use Rattle.state.specs.Fitness as fitness
use Rattle.state.specs.Rows.{use_of, save, published, released, advanced, openings, place_of}
use Rattle.rules.specs.declared.Refusal.{Refusal}
use Rattle.state.proofs.Frames.{set_off, tick_below, published_off, published_fit, released_off, released_fit, fit_tick}
use Rattle.machine.specs.declared.Machine.{Machine}
use Rattle.machine.specs.Calls.{keeping, step_in, read_in, write_in, step_of, write_of}
use Rattle.simulation.specs.Simulates.{position_of, permits, Accesses, Knows, Runs, outcome_said, call_said, calls_said, call_leaves, Simulates, SimulatesAll}
use Rattle.simulation.proofs.Follows.{inside_is, opened_is, closed_like, closed_is, closed_none, copied_is, released_long, released_at, load_is, save_is}

-- a place that is refused with a number
abbrev refused_place : ℕ → Result ℕ Refusal
refused_place n = cond (eqb n no_access) (Err Refusal.NoAccess) (Err Refusal.Outside)

-- ---- what loading alone writes is known as long as it stays

module _ (tab : Table) (F : Fits tab) (n o : List ℕ) (same : (k : ℕ) → k < held → at o k ≡ at n k) where
  accesses_stay : (allowed : ℕ → ℕ → Bool) (place : ℕ → ℕ → ℕ → stores.Place) (kind : ℕ) → kind ≤ parts.last_kind → Accesses tab allowed place kind n → Accesses tab allowed place kind o
  unfolding use_of
  accesses_stay allowed place kind b X =
      record {
        exact = λ k s h a. ap (λ x. eqb x parts.none) (same (cell kind k s) (omega arith)) ∙ X.exact k s h a;
        stands = λ s k i p h. use_stays s k i (permits_few s k p).0 (permits_few s k p).1 ∙ X.stands s k i p h;
      }
    where
      permits_few : (s k : ℕ) → permits tab allowed k s ≡ true → (k < most_tasks) × (s < most_signals)
      permits_few s k p =
          let b = both (ltb k tab.tasks && ltb s tab.signals) (allowed s k) p in
          let d = both (ltb k tab.tasks) (ltb s tab.signals) b.0 in
          (omega (arith, ltb-true k tab.tasks d.0, F.few_tasks), omega (arith, ltb-true s tab.signals d.1, F.few_signals))

      use_stays : (s k i : ℕ) → k < most_tasks → s < most_signals → use_of o kind k i s ≡ use_of n kind k i s
      use_stays s k i h a =
          let j = at n (cell kind k s) + i in
          rw (same (cell kind k s) (omega arith))
          (split (ltb j most_uses) (λ e. let c = ltb-true j most_uses e in rw (e, same (uses + j) (omega arith))) (λ e. rw e))

  pub stays_known : (L : Layout) → Knows tab L n → Knows tab L o
  stays_known L K =
      record {
        hyper_is = same parts.hyper (omega arith) ∙ K.hyper_is;
        periods_are = λ k h. same (parts.periods + k) (omega (arith, F.few_tasks)) ∙ K.periods_are k h;
        starts_are = λ k h. same (parts.starts + k) (omega (arith, F.few_tasks)) ∙ K.starts_are k h;
        ends_are = λ k h. same (parts.ends + k) (omega (arith, F.few_tasks)) ∙ K.ends_are k h;
        counts_are = λ k h. same (parts.counts + k) (omega (arith, F.few_tasks)) ∙ K.counts_are k h;
        no_task = λ k a h. same (parts.counts + k) (omega arith) ∙ K.no_task k a h;
        reads_are = accesses_stay tab.reads L.sent reads (omega arith) K.reads_are;
        writes_are = accesses_stay tab.writes (λ s k i. L.place (by s k i)) writes (omega arith) K.writes_are;
        carried_are = λ s h. same (parts.carried + s) (omega (arith, F.few_signals)) ∙ K.carried_are s h;
        none_carried = λ s a h. same (parts.carried + s) (omega arith) ∙ K.none_carried s a h;
      }

module _ (tab : Table) (L : Layout) (F : Fits tab) (st : State) (m : Machine) (R : Runs tab L st m) where
  abbrev n : List ℕ
  n = m.numbers

  abbrev t : ℕ
  t = st.tick

  inside : t < hyper tab
  inside = omega (arith, tick_below n R.fits, R.tick_is, R.knows.hyper_is)

  -- ---- a step

  -- the numbers after the closings
  abbrev n₁ : List ℕ
  n₁ = published n

  closed_long : length n₁ ≡ numbers
  closed_long = (closed_like tab L F n R.knows t R.tick_is inside R.long).long ∙ R.long

  closed_same : (k : ℕ) → k < held → at n₁ k ≡ at n k
  closed_same k h = published_off n k (λ s a e. omega arith)

  closed_tick : at n₁ tick ≡ t
  closed_tick = published_off n tick (λ s a e. omega arith) ∙ R.tick_is

  closed_hyper : at n₁ parts.hyper ≡ hyper tab
  closed_hyper = closed_same parts.hyper (omega arith) ∙ R.knows.hyper_is

  -- other numbers from what is held on, at another tick, just before its openings
  module _ (next : ℕ) (last : ℕ → stores.Place) (x : stores.Memory) (o : List ℕ) (f : fitness.fit o ≡ true) (long : length o ≡ numbers) (same : (k : ℕ) → k < held → at o k ≡ at n k) (now : at o tick ≡ next)
      (H : (s : ℕ) → s < tab.signals → at o (held + s) ≡ position_of (last s)) (N : (s : ℕ) → tab.signals ≤ s → s < most_signals → at o (held + s) ≡ 0)
      (l : next < hyper tab) (z : length x.block ≡ words) where
    runs_opened : Runs tab L (rules.opened tab L next last x) (keeping o m.defaults (openings o m.defaults x.block))
    runs_opened =
        let K = stays_known tab F n o same L R.knows in
        record {
          fits = f;
          long = long;
          knows = K;
          defaults_are = R.defaults_are;
          tick_is = now;
          held_are = λ s a. H s a ∙ ap position_of (sym (getD_each tab.signals last s nowhere a));
          nothing_held = N;
          store_is = opened_is tab L F o K next now l m.defaults R.defaults_are x z;
          store_long = openings_sized tab L next x z;
        }

  -- the next tick is in this hyper-period
  runs_on : suc t < hyper tab → Runs tab L (rules.opened tab L (suc t) (rules.closed tab L st) (memory st)) (keeping (set n₁ tick (suc t)) m.defaults (openings (set n₁ tick (suc t)) m.defaults st.block))
  runs_on h =
      let C = closed_is tab L F n R.knows t R.tick_is inside R.long st refl R.held_are R.nothing_held in
      let off : (k : ℕ) → (k ≡ tick → ⊥) → at (set n₁ tick (suc t)) k ≡ at n₁ k = λ k e. set_off n₁ tick k (suc t) e in
      runs_opened (suc t) (rules.closed tab L st) (memory st) (set n₁ tick (suc t))
      (fit_tick n₁ (suc t) (omega (arith, closed_hyper)) (published_fit n R.fits))
      (length-set n₁ tick (suc t) ∙ closed_long)
      (λ k b. off k (λ e. omega arith) ∙ closed_same k b)
      (get_or-set_same n₁ tick (suc t) 0 (omega (arith, closed_long)))
      (λ s a. off (held + s) (λ e. omega (arith, F.few_signals)) ∙ C s a)
      (λ s a b. off (held + s) (λ e. omega arith) ∙ closed_none tab L F n R.knows t R.tick_is inside R.long s a b (R.nothing_held s a b))
      h R.store_long

  -- the next tick is H
  runs_over : Runs tab L (rules.opened tab L 0 (λ s. L.place (carried s)) (rules.copied tab L st (memory st)))
      (keeping (set (released n₁) tick 0) m.defaults (openings (set (released n₁) tick 0) m.defaults (rules.copied tab L st (memory st)).block))
  runs_over =
      let off : (k : ℕ) → (k ≡ tick → ⊥) → at (set (released n₁) tick 0) k ≡ at (released n₁) k = λ k e. set_off (released n₁) tick k 0 e in
      let first : (s : ℕ) → s < most_signals → at (set (released n₁) tick 0) (held + s) ≡ at n (parts.carried + s) =
      λ s b. off (held + s) (λ e. omega arith) ∙ released_at n₁ closed_long s b ∙ closed_same (parts.carried + s) (omega arith) in
      let low : (k : ℕ) → k < held → at (released n₁) k ≡ at n k = λ k b. released_off n₁ k (λ s a e. omega arith) ∙ closed_same k b in
      runs_opened 0 (λ s. L.place (carried s)) (rules.copied tab L st (memory st)) (set (released n₁) tick 0)
      (fit_tick (released n₁) 0 (omega (arith, low parts.hyper (omega arith), R.knows.hyper_is, hyper_pos tab F)) (released_fit n₁ (published_fit n R.fits)))
      (length-set (released n₁) tick 0 ∙ released_long n₁ closed_long)
      (λ k b. off k (λ e. omega arith) ∙ low k b)
      (get_or-set_same (released n₁) tick 0 0 (omega (arith, released_long n₁ closed_long)))
      (λ s a. first s (omega (arith, F.few_signals)) ∙ R.knows.carried_are s a)
      (λ s a b. first s b ∙ R.knows.none_carried s a b)
      (hyper_pos tab F) (copied_sized tab L st (memory st) R.store_long)

  step_said : call_said m step ≡ outcome_said (answer tab L st step)
  unfolding step_in answer when
  step_said = rw R.fits

  runs_stepped : Runs tab L (after tab L st step) (step_of m).machine
  unfolding step_in after rules.stepped advanced when
  runs_stepped =
      let e : ltb (at n₁ tick + 1) (at n₁ parts.hyper) ≡ ltb (suc t) (hyper tab) = ap₂ ltb (ap (λ x. x + 1) closed_tick ∙ add-one t) closed_hyper in
      let next : at n₁ tick + 1 ≡ suc t = ap (λ x. x + 1) closed_tick ∙ add-one t in
      rw (R.fits, e) (split (ltb (suc t) (hyper tab))
      (λ q. rw (q, next, R.store_is) (runs_on (ltb-true (suc t) (hyper tab) q)))
      (λ q. rw (q, R.store_is, copied_is tab L F n R.knows t R.tick_is inside R.long st refl R.held_are R.nothing_held (memory st) R.store_long) runs_over))

  -- ---- reads and writes

  -- where a task finds a signal, as document 01 judges it
  place_is : (allowed : ℕ → ℕ → Bool) (place : ℕ → ℕ → ℕ → stores.Place) (kind : ℕ) → Accesses tab allowed place kind n → (k s : ℕ)
      → place_of n kind k s ≡ judged tab allowed s k t (Ok (position_of (place s k (instance tab k t)))) refused_place
  unfolding judged place_of when
  place_is allowed place kind X k s =
      split (permits tab allowed k s)
      (λ e.
      let b = both (ltb k tab.tasks && ltb s tab.signals) (allowed s k) e in
      let d = both (ltb k tab.tasks) (ltb s tab.signals) b.0 in
      let h = ltb-true k tab.tasks d.0 in
      let r = ltb-true s tab.signals d.1 in
      let few : k < most_tasks = omega (arith, F.few_tasks) in
      let one : s < most_signals = omega (arith, F.few_signals) in
      rw (e, lt-leb most_tasks k few, lt-leb most_signals s one, X.exact k s few one ∙ ap not e, inside_is tab L F n R.knows t R.tick_is inside k h)
      (split (is_open tab k (instance tab k t) t)
      (λ q. rw q (ap Ok (X.stands s k (instance tab k t) e (instance_lt tab F k t h inside))))
      (λ q. rw q)))
      (λ e. rw e (split (leb most_tasks k)
      (λ p. rw p)
      (λ p. rw p (split (leb most_signals s)
      (λ q. rw q)
      (λ q. rw (q, X.exact k s (leb-false most_tasks k p) (leb-false most_signals s q) ∙ ap not e))))))

  -- the three cases of a call: accepted, outside its window, not permitted
  read_said : (k s : ℕ) → call_said m (read k s) ≡ outcome_said (answer tab L st (read k s))
  unfolding read_in answer judged when
  read_said k s =
      rw (R.fits, place_is tab.reads L.sent reads R.knows.reads_are k s)
      (split (permits tab tab.reads k s)
      (λ e. rw e (split (is_open tab k (instance tab k t) t)
      (λ o. rw (o, R.store_is, load_is (memory st) (L.sent s k (instance tab k t)) R.store_long))
      (λ o. rw o)))
      (λ e. rw e))

  write_said : (k s : ℕ) (c : Content) → call_said m (write k s c) ≡ outcome_said (answer tab L st (write k s c))
  unfolding write_in answer judged when
  write_said k s c =
      rw (R.fits, place_is tab.writes (λ s k i. L.place (by s k i)) writes R.knows.writes_are k s)
      (split (permits tab tab.writes k s)
      (λ e. rw e (split (is_open tab k (instance tab k t) t) (λ o. rw o) (λ o. rw o)))
      (λ e. rw e))

  -- what is written stands in both stores
  runs_stored : (k s : ℕ) (c : Content) → Runs tab L (rules.stored tab L st s k c) (keeping n m.defaults (save m.store (position_of (L.place (by s k (instance tab k t)))) (word_in c)))
  unfolding rules.stored
  runs_stored k s c =
      let p = L.place (by s k (instance tab k t)) in
      record {
        fits = R.fits;
        long = R.long;
        knows = R.knows;
        defaults_are = R.defaults_are;
        tick_is = R.tick_is;
        held_are = R.held_are;
        nothing_held = R.nothing_held;
        store_is = ap (λ b. save b (position_of p) (word_in c)) R.store_is ∙ save_is (memory st) p c R.store_long;
        store_long = put_sized tab (memory st) p c R.store_long;
      }

  runs_written : (k s : ℕ) (c : Content) → Runs tab L (after tab L st (write k s c)) (write_of m k s (word_in c)).machine
  unfolding write_in after judged when
  runs_written k s c =
      rw (R.fits, place_is tab.writes (λ s k i. L.place (by s k i)) writes R.knows.writes_are k s)
      (split (permits tab tab.writes k s)
      (λ e. rw e (split (is_open tab k (instance tab k t) t) (λ o. rw o (runs_stored k s c)) (λ o. rw o R)))
      (λ e. rw e R))

pub simulates : (tab : Table) (L : Layout) → Simulates tab L
unfolding after
simulates tab L F st m R step = (step_said tab L F st m R, runs_stepped tab L F st m R)
simulates tab L F st m R (read k s) = (read_said tab L F st m R k s, R)
simulates tab L F st m R (write k s c) = (write_said tab L F st m R k s c, runs_written tab L F st m R k s c)

pub simulates_all : (tab : Table) (L : Layout) → SimulatesAll tab L
unfolding calls_said answers
simulates_all tab L F st m R [] = refl
simulates_all tab L F st m R (c ∷ cs) = let (e, N) = simulates tab L F st m R c in ap₂ ◌∷◌ e (simulates_all tab L F (after tab L st c) (call_leaves m c) N cs)
