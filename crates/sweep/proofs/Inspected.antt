-- What the code has at hand of an opening or closing gives what the pass does there. Assumes nothing.
use mathlib.Core.Bool.{Bool, true, false, ◌||◌}
use mathlib.Core.List.{List}
use mathlib.Core.Logic.{◌⊎◌, inl, inr, ⊎_elim}
use mathlib.Core.Path.{◌≡◌, refl, sym, ap, ◌∙◌}
use Prim.Native.Nat.{ℕ, zero, suc, ◌+◌, ◌*◌, ◌-◌, ◌/◌, ◌%◌, ◌≤◌, ◌<◌}
use native.Mathlib.Nat.{div-div-eq-div-mul, mod-lt}
use native.Mathlib.Numerals.{add-one}
use native.Mathlib.Omega.{arith}
use lib.Arith.{mod-mul}
use lib.Dec.{eqb}
use lib.ListN.{length, get_or, drop}
use lib.Seq.{drop-cons, drop-length}
use borrow.Author.Tests.{eqb-true, eqb-false}
use Rattle.rules.specs.Words.{total, times}
use Rattle.rules.specs.Windows.{Table, opens, closes, instance, instances, hyper}
use Rattle.rules.specs.Table.{most_tasks, most_elements}
use Rattle.rules.specs.Schedule.{Schedule}
use Rattle.rules.specs.Bytes.{wi, ri, writers_below, readers_below, size_of, start_of, schedule_in}
use Rattle.rules.specs.Reading.{cell_at, task_of, writes_in, reads_in}
use Rattle.theory.specs.Sweep.{Pass, task_in, tick_in, is_opening, opened, closed, acted, reader_opens, writer_opens, writer_closes, handled, events, through, sweep}
use Rattle.theory.proofs.Tests.{split, holds, not_both, not_or_left, not_or_right}
use Rattle.theory.proofs.Time.{instance_is, instance_lt, closes_le}
use Rattle.theory.proofs.Swept.{opening_digits, closing_digits}
use Rattle.theory.proofs.Lists.{all_at}
use Rattle.theory.proofs.Events.{IsEvent, events_all}
use Rattle.events.proofs.Alone.{events_alone}
use Rattle.accept.specs.Accepts.{its_table}
use Rattle.accept.specs.declared.Accepted.{Accepted}
use Rattle.sweep.specs.Pass.{pass_of, unswept, may_read, may_write, element_at, Inside, read_of, wrote_of, closed_of, handled_of, Handles, Inspects, AreActs}
use Rattle.sweep.specs.declared.Places.{Places}
use Rattle.sweep.specs.declared.swept.Swept.{Swept}
use Rattle.sweep.specs.declared.swept.Turn.{Turn}

-- ---- places

pub total_within : (f : ℕ → ℕ) (n k : ℕ) → k < n → total f k + f k ≤ total f n
unfolding total
total_within f zero k h = absurd (omega arith)
total_within f (suc n) k h =
    split (eqb k n)
    (λ q. rw (eqb-true k n q) (omega arith))
    (λ q. let z = eqb-false k n q in omega (arith, total_within f n k (omega arith)))

module _ (tab : Table) (s : ℕ) where
  -- records have 7 bytes
  pub writer_step : (k i : ℕ) → start_of tab (wi s k i) + 6 ≡ start_of tab (wi s k 0) + 6 + 7 * i
  unfolding start_of
  writer_step k i = omega arith

  pub reader_step : (k i : ℕ) → start_of tab (ri s k i) + 6 ≡ start_of tab (ri s k 0) + 6 + 7 * i
  unfolding start_of
  reader_step k i = omega arith

  -- and each stands among those of its signal
  among : (allowed : ℕ → Bool) (k i : ℕ) → k < tab.tasks → allowed k ≡ true → i < instances tab k
      → total (λ k. times (allowed k) (instances tab k)) k + i < total (λ k. times (allowed k) (instances tab k)) tab.tasks
  among allowed k i h w l =
      let b : times (allowed k) (instances tab k) ≡ instances tab k = rw w in
      omega (arith, total_within (λ k. times (allowed k) (instances tab k)) tab.tasks k h)

  pub writer_inside : (k i : ℕ) → k < tab.tasks → tab.writes s k ≡ true → i < instances tab k → start_of tab (wi s k i) + 6 < total (size_of tab) (suc s)
  unfolding start_of size_of writers_below total
  writer_inside k i h w l = omega (arith, among (tab.writes s) k i h w l)

  pub reader_inside : (k i : ℕ) → k < tab.tasks → tab.reads s k ≡ true → i < instances tab k → start_of tab (ri s k i) + 6 < total (size_of tab) (suc s)
  unfolding start_of size_of readers_below total
  reader_inside k i h w l = omega (arith, among (tab.reads s) k i h w l)

-- ---- an opening or closing

module _ (a : Accepted) (s : ℕ) (list : List ℕ) (places : Places) (bytes : List ℕ) (I : Inspects a s list places bytes) where
  abbrev tab : Table
  tab = its_table a

  abbrev E : Schedule
  E = schedule_in tab bytes

  abbrev turn : ℕ → ℕ → Turn
  turn k t = record { cell = cell_at a.grid k s; tick = t; task = task_of a.tasks k; readers = get_or places.readers k 0; writers = get_or places.writers k 0 }

  -- what the code has at hand of the event n
  abbrev pub turn_at : ℕ → Turn
  turn_at n = turn (task_in n) (n / (most_tasks * 2))

  turn_is : (n : ℕ) → turn_at n ≡ turn (task_in n) (tick_in n)
  turn_is n = ap (turn (task_in n)) (sym (div-div-eq-div-mul n most_tasks 2))

  -- what an event says
  record Known (n : ℕ) : Type 0 where
    task : task_in n < tab.tasks
    tick : tick_in n ≤ hyper tab
    opens_at_lem : is_opening n ≡ true → (opens tab (task_in n) (instance tab (task_in n) (tick_in n)) ≡ tick_in n) × (tick_in n < hyper tab)
    closes_at : is_opening n ≡ false → (t : ℕ) × (tick_in n ≡ suc t) × (closes tab (task_in n) (instance tab (task_in n) t) ≡ suc t) × (t < hyper tab)

  known : (n : ℕ) → IsEvent tab n → Known n
  known n (k, i, h, l, inl e) =
      let F = a.fits in
      let d = opening_digits (opens tab k i) k (omega (arith, F.few_tasks)) in
      let z = instance_is tab F k i (opens tab k i) h (omega arith) (omega (arith, F.window k h)) in
      let w : opens tab k i < hyper tab = omega (arith, F.window k h, closes_le tab F k i h l) in
      rw e (record {
        task = rw d.1 h;
        tick = rw d.2 (omega arith);
        opens_at_lem = λ q. rw (d.1, d.2, z) (refl, w);
        closes_at = λ q. absurd (not_both d.0 q);
      })
  known n (k, i, h, l, inr e) =
      let F = a.fits in
      let d = closing_digits (closes tab k i) k (omega (arith, F.few_tasks)) in
      rw e (record {
        task = rw d.1 h;
        tick = rw d.2 (closes_le tab F k i h l);
        opens_at_lem = λ q. absurd (not_both q d.0);
        closes_at = λ q. rw (d.1, d.2) (at (closes tab k i) refl);
      })
    where
      at : (c : ℕ) → closes tab k i ≡ c → (t : ℕ) × (c ≡ suc t) × (closes tab k (instance tab k t) ≡ suc t) × (t < hyper tab)
      at zero q = absurd (omega (arith, a.fits.window k h))
      at (suc t) q =
          let z = instance_is tab a.fits k i t h (omega (arith, a.fits.window k h)) (omega arith) in
          (t, refl, rw z q, omega (arith, closes_le tab a.fits k i h l))

  opening_is : (k t : ℕ) (p : Pass) → k < tab.tasks → opens tab k (instance tab k t) ≡ t → wrote_of bytes (read_of bytes p (turn k t)) (turn k t) ≡ opened tab s (reader_opens tab E s) (writer_opens tab E s) p k t
  unfolding read_of wrote_of schedule_in writes_in reads_in
  opening_is k t p h o =
      let c : t - tab.start k + tab.end k ≡ closes tab k (instance tab k t) = omega arith in
      rw (I.placed.readers k h, I.placed.writers k h, ← reader_step tab s k (instance tab k t), ← writer_step tab s k (instance tab k t), c)

  closing_is : (k t : ℕ) (p : Pass) → k < tab.tasks → closed_of bytes p (turn k (suc t)) ≡ closed tab s (writer_closes tab E s) p k t
  unfolding closed_of schedule_in writes_in
  closing_is k t p h =
      let e : suc t - 1 ≡ t = omega arith in
      rw (e, I.placed.writers k h, ← writer_step tab s k (instance tab k t))

  pub handled_is : (n : ℕ) (p : Pass) → IsEvent tab n → handled_of bytes n p (turn_at n) ≡ handled tab E s p n
  unfolding acted handled_of
  handled_is n p x =
      let K = known n x in
      rw (turn_is n)
      (split (is_opening n)
      (λ q. rw q (opening_is (task_in n) (tick_in n) p K.task (K.opens_at_lem q).0))
      (λ q.
      let (t, e, c, l) = K.closes_at q in
      let f : suc t - 1 ≡ t = omega arith in
      rw (q, e, f) (closing_is (task_in n) t p K.task)))

  -- the element of a writer's instance is there, and is an element
  writes_in_lem : (k t : ℕ) → k < tab.tasks → t < hyper tab → may_write (cell_at a.grid k s) ≡ true → Inside bytes (get_or places.writers k 0) (instance tab k t) × (element_at bytes (get_or places.writers k 0) (instance tab k t) < most_elements)
  unfolding schedule_in writes_in
  writes_in_lem k t h l w =
      let i = instance_lt tab a.fits k t h l in
      let e = I.placed.writers k h in
      let f = writer_step tab s k (instance tab k t) in
      (omega (arith, writer_inside tab s k (instance tab k t) h w i, I.whole), rw (e, ← f) (I.low k (instance tab k t) h (holds w) i))

  reads_in_lem : (k t : ℕ) → k < tab.tasks → t < hyper tab → may_read (cell_at a.grid k s) ≡ true → Inside bytes (get_or places.readers k 0) (instance tab k t)
  unfolding reads_in
  reads_in_lem k t h l w =
      let e = I.placed.readers k h in
      let f = reader_step tab s k (instance tab k t) in
      omega (arith, reader_inside tab s k (instance tab k t) h w (instance_lt tab a.fits k t h l), I.whole)

  pub handles : (n : ℕ) → IsEvent tab n → Handles bytes n (turn_at n)
  handles n x =
      let K = known n x in
      let F = a.fits in
      rw (turn_is n) (record {
        fits = record { window = F.window (task_in n) K.task; within = F.within (task_in n) K.task; short = F.short (task_in n) K.task; early = omega (arith, K.tick, F.hyper_short) };
        opens = λ q. let o = K.opens_at_lem q in ((λ r. (omega (arith, o.0), reads_in_lem (task_in n) (tick_in n) K.task o.1 r)), λ r. writes_in_lem (task_in n) (tick_in n) K.task o.1 r);
        closes = λ q. let (t, e, c, l) = K.closes_at q in
            let f : tick_in n - 1 ≡ t = omega arith in
            (omega arith, λ r. rw f (writes_in_lem (task_in n) t K.task l r));
      })

  -- what is nothing for the signal changes nothing
  pub skipped : (n : ℕ) (p : Pass) (acts : List Bool) → IsEvent tab n → AreActs a.grid s a.tasks.count acts → get_or acts (n % (2 * most_tasks)) false ≡ false → handled tab E s p n ≡ p
  unfolding handled_of read_of wrote_of closed_of
  skipped n p acts x A e =
      let K = known n x in
      let two : 0 < 2 = omega arith in
      let m : n % (2 * most_tasks) ≡ n / most_tasks % 2 * most_tasks + task_in n = mod-mul n {m = 2} {c = most_tasks} (omega arith) (omega arith) in
      sym (handled_is n p x) ∙ split (is_opening n)
      (λ q.
      let z : n % (2 * most_tasks) ≡ most_tasks + task_in n = omega (arith, eqb-true (n / most_tasks % 2) 1 q) in
      let c : (may_read (cell_at a.grid (task_in n) s) || may_write (cell_at a.grid (task_in n) s)) ≡ false = sym (A.opening (task_in n) K.task) ∙ ap (λ y. get_or acts y false) (sym z) ∙ e in
      let r : may_read (cell_at a.grid (task_in n) s) ≡ false = not_or_left _ _ c in
      let w : may_write (cell_at a.grid (task_in n) s) ≡ false = not_or_right _ _ c in
      rw (q, r, w))
      (λ q.
      let z : n % (2 * most_tasks) ≡ task_in n = omega (arith, eqb-false (n / most_tasks % 2) 1 q, mod-lt (n / most_tasks) two) in
      let c : may_write (cell_at a.grid (task_in n) s) ≡ false = sym (A.closing (task_in n) K.task) ∙ ap (λ y. get_or acts y false) (sym z) ∙ e in
      rw (q, c))

  -- ---- one after the other

  listed : list ≡ events tab
  listed = I.listed ∙ sym (events_alone a.tasks a.signals a.grid)

  pub is_event : (n : ℕ) → n < length list → IsEvent tab (get_or list n 0)
  is_event n h = rw listed (all_at (IsEvent tab) 0 (events tab) (events_all tab a.fits) n (omega (arith, ap length listed)))

  pub pass_turn : (n : ℕ) (p : Pass) → n < length list → through (handled tab E s) p (drop n (events tab)) ≡ through (handled tab E s) (handled tab E s p (get_or list n 0)) (drop (n + 1) (events tab))
  unfolding through
  pass_turn n p h = rw (listed, add-one n, drop-cons (events tab) n 0 (omega (arith, ap length listed)))

  pub pass_ends : (n : ℕ) (p : Pass) → n ≡ length list → through (handled tab E s) p (drop n (events tab)) ≡ p
  unfolding through
  pass_ends n p h = rw (h ∙ ap length listed, drop-length (events tab))

  -- one turn of the loop
  abbrev pub Left : ℕ → Swept → Type 0
  Left n p = through (handled tab E s) (pass_of p) (drop n (events tab)) ≡ sweep tab E s

  pub pass_starts : (p : Swept) → pass_of p ≡ unswept → Left 0 p
  unfolding sweep
  pass_starts p e = ap (λ q. through (handled tab E s) q (drop 0 (events tab))) e

  pub pass_next : (n : ℕ) (acts : List Bool) (p r : Swept) → n < length list → AreActs a.grid s a.tasks.count acts → Left n p
      → (pass_of r ≡ handled_of bytes (get_or list n 0) (pass_of p) (turn_at (get_or list n 0))) ⊎ ((get_or acts (get_or list n 0 % (2 * most_tasks)) false ≡ false) × (r ≡ p))
      → Left (n + 1) r
  pass_next n acts p r h A l c =
      let x = is_event n h in
      let e : pass_of r ≡ handled tab E s (pass_of p) (get_or list n 0) =
      ⊎_elim (λ q. q ∙ handled_is (get_or list n 0) (pass_of p) x) (λ q. ap pass_of q.1 ∙ sym (skipped (get_or list n 0) (pass_of p) acts x A q.0)) c in
      ap (λ q. through (handled tab E s) q (drop (n + 1) (events tab))) e ∙ sym (pass_turn n (pass_of p) h) ∙ l

  pub pass_right : (n : ℕ) (p : Swept) → n ≡ length list → Left n p → p.clean ≡ (sweep tab E s).right
  pass_right n p h l = ap (λ (q : Pass). q.right) (sym (pass_ends n (pass_of p) h) ∙ l)
