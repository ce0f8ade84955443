-- The code's pass over the events of a table is the one that makes the plan. Assumes nothing.
use mathlib.Core.Bool.{Bool, true, false, true≢false, cond}
use mathlib.Core.List.{List, [], ◌∷◌}
use mathlib.Core.Logic.{inl, inr}
use mathlib.Core.Path.{◌≡◌, refl, sym, ap, ap₂, subst, ◌∙◌}
use Prim.Native.Nat.{ℕ, suc, ◌+◌, ◌*◌, ◌-◌, ◌/◌, ◌≤◌, ◌<◌}
use native.Mathlib.Numerals.{add-one}
use native.Mathlib.Omega.{arith}
use lib.ListN.{length, get_or, take}
use lib.Seq.{take-suc, take-length}
use Rattle.rules.specs.Windows.{Table, opens, closes, instances, hyper}
use Rattle.rules.specs.Table.{longest, Fits}
use Rattle.rules.specs.Reading.{Grid, task_of, writes_in, reads_in, no_signals}
use Rattle.rules.specs.declared.Tasks.{Tasks}
use Rattle.theory.specs.Sweep.{task_in, tick_in, is_opening, events, through, acted}
use Rattle.std.specs.Prelude.{Option, Some, is_some, unwrap_or}
use Rattle.std.specs.Bool.{then_some}
use Rattle.rules.specs.declared.Task.{Task}
use Rattle.theory.specs.Chosen.{Choice, choose, unchosen, chosen, sent, taken}
use Rattle.elements.specs.Steps.{free_in}
use Rattle.theory.proofs.Tests.{split, holds}
use Rattle.theory.proofs.Lists.{all_at}
use Rattle.theory.proofs.Time.{instance_is, closes_le}
use Rattle.theory.proofs.Swept.{opening_digits, closing_digits, through_append}
use Rattle.theory.proofs.Events.{IsEvent, events_all}
use Rattle.theory.proofs.Chosen.{first_next, writer_lt, reader_lt}
use Rattle.events.specs.Order.{tasks_table}
use Rattle.events.proofs.Alone.{events_alone, fits_tasks}
use Rattle.accept.specs.declared.Accepted.{Accepted}
use Rattle.elements.specs.declared.pass.FirstUses.{FirstUses}
use Rattle.elements.specs.declared.pass.Numbers.{Numbers}
use Rattle.elements.specs.Pass.{Turns, read_from, written_from, turn_of, pass_table, Ready}

-- ---- one after the other

through_turn : {A : Type 0} (f : A → ℕ → A) (a : A) (xs : List ℕ) (n : ℕ) → n < length xs → through f a (take (n + 1) xs) ≡ f (through f a (take n xs)) (get_or xs n 0)
unfolding through
through_turn f a xs n h = rw (add-one n, take-suc xs n 0 h) (through_append f a (take n xs) (get_or xs n 0 ∷ []))

-- a number that is there where a test passes
chosen_some : (b : Bool) {x n : ℕ} → then_some b x ≡ Some n → (b ≡ true) × (x ≡ n)
chosen_some true {x} {n} e = (refl, ap (λ (o : Option ℕ). unwrap_or o 0) e)
chosen_some false e = absurd (true≢false (sym (ap is_some e)))

read_where : (task : Task) (b : Bool) (n t : ℕ) (c : Choice) → read_from task (then_some b n) t c ≡ cond b (sent c (n + t / task.period) (t / task.period * task.period + task.end)) c
read_where task true n t c = refl
read_where task false n t c = refl

written_where : (task : Task) (b : Bool) (n k t : ℕ) (c : Choice) → written_from task (then_some b n) k t c ≡ cond b (taken c (n + t / task.period) k (free_in c.held t)) c
written_where task true n k t c = refl
written_where task false n k t c = refl

none_more : (b : Bool) (x : ℕ) → is_some (then_some b x) ≡ b
none_more true x = refl
none_more false x = refl

module _ (a : Accepted) (s : ℕ) where
  abbrev tasks : Tasks
  tasks = a.tasks

  abbrev grid : Grid
  grid = a.grid

  abbrev tab : Table
  tab = pass_table tasks grid

  -- what the code knows after n events
  abbrev pub After : List ℕ → ℕ → Choice → Type 0
  After uses n c = c ≡ through (choose tab s) (unchosen tab s uses) (take n (events tab))

  pub after_none : (uses : List ℕ) → After uses 0 (unchosen tab s uses)
  unfolding through
  after_none uses = refl

  pub after_all : (uses : List ℕ) (n : ℕ) (c : Choice) → n ≡ length (events tab) → After uses n c → c ≡ chosen tab s uses
  unfolding chosen
  after_all uses n c h e = e ∙ ap (through (choose tab s) (unchosen tab s uses)) (ap (λ n. take n (events tab)) h ∙ take-length (events tab))

  module _ (list : List ℕ) (numbers : Numbers) (R : Ready a s list numbers) where
    abbrev F : Fits (tasks_table tasks)
    F = fits_tasks a

    -- no table with these tasks has other events
    same_events : list ≡ events tab
    same_events = R.events ∙ sym (events_alone tasks no_signals grid)

    pub counted : length list ≡ length (events tab)
    counted = ap length same_events

    module _ (n : ℕ) (h : n < length list) where
      -- the event that the code reads
      abbrev event : ℕ
      event = get_or list n 0

      is_event : IsEvent (tasks_table tasks) event
      is_event = rw R.events (all_at (IsEvent (tasks_table tasks)) 0 (events (tasks_table tasks)) (events_all (tasks_table tasks) F) n (omega (arith, ap length R.events)))

      -- the first uses of its task, where it has the right
      abbrev first : ℕ → Bool → Bool → FirstUses
      first k r w = record { read = then_some r (get_or numbers.readers k 0); write = then_some w (get_or numbers.writers k 0) }

      pub one_task : task_in event < tasks.count
      one_task = go is_event
        where
          go : IsEvent (tasks_table tasks) event → task_in event < tasks.count
          go (k, i, a, b, inl e) = omega (arith, ap task_in e, (opening_digits (opens (tasks_table tasks) k i) k (omega (arith, F.few_tasks))).1)
          go (k, i, a, b, inr e) = omega (arith, ap task_in e, (closing_digits (closes (tasks_table tasks) k i) k (omega (arith, F.few_tasks))).1)

      -- an opening is that of an instance of the hyper-period
      opens_within : is_opening event ≡ true → (tick_in event / tab.period (task_in event) < instances tab (task_in event)) × (tick_in event ≤ longest)
      unfolding hyper
      opens_within o = go is_event
        where
          go : IsEvent (tasks_table tasks) event → (tick_in event / tab.period (task_in event) < instances tab (task_in event)) × (tick_in event ≤ longest)
          go (k, i, a, b, inl e) =
              let d = opening_digits (opens (tasks_table tasks) k i) k (omega (arith, F.few_tasks)) in
              let t : tick_in event ≡ opens (tasks_table tasks) k i = ap tick_in e ∙ d.2 in
              let m : task_in event ≡ k = ap task_in e ∙ d.1 in
              let j = instance_is (tasks_table tasks) F k i (opens (tasks_table tasks) k i) a (omega arith) (omega (arith, F.window k a)) in (
                rw (t, m, j) b,
                omega (arith, F.window k a, closes_le (tasks_table tasks) F k i a b, F.hyper_short),
              )
          go (k, i, a, b, inr e) = absurd (true≢false (sym o ∙ ap is_opening e ∙ (closing_digits (closes (tasks_table tasks) k i) k (omega (arith, F.few_tasks))).0))

      turns_of : (r w : Bool) → r ≡ reads_in grid s (task_in event) → w ≡ writes_in grid s (task_in event) → Turns (task_of tasks (task_in event)) (first (task_in event) r w) event
      turns_of x z a b o =
          let w = opens_within o in
          let m = one_task in
          let f = first_next tab s in
          record {
            tick = w.1;
            period = omega (arith, F.window (task_in event) m, F.within (task_in event) m);
            end = omega (arith, F.within (task_in event) m, F.short (task_in event) m);
            reader = λ n r.
                let (h, e) = chosen_some x r in
                omega (arith, e, R.readers (task_in event) m, reader_lt tab s (task_in event) (tick_in event / tab.period (task_in event)) m (holds (sym a ∙ h)) w.0, R.room);
            writer = λ n r.
                let (h, e) = chosen_some z r in
                omega (arith, e, R.writers (task_in event) m, writer_lt tab s (task_in event) (tick_in event / tab.period (task_in event)) m (holds (sym b ∙ h)) w.0, R.room);
          }

      pub turns : {k : ℕ} → k ≡ task_in event → {r w : Bool} {x z : Option ℕ} → r ≡ reads_in grid s k → w ≡ writes_in grid s k → x ≡ then_some r (get_or numbers.readers k 0) → z ≡ then_some w (get_or numbers.writers k 0)
          → Turns (task_of tasks k) (record { read = x; write = z }) event
      turns j {r} {w} a b p q = rw (p, q, j) (turns_of r w (subst (λ k. r ≡ reads_in grid s k) j a) (subst (λ k. w ≡ writes_in grid s k) j b))

      -- no window closes at tick 0
      closes_later : is_opening event ≡ false → suc (tick_in event - 1) ≡ tick_in event
      closes_later o = go is_event
        where
          go : IsEvent (tasks_table tasks) event → suc (tick_in event - 1) ≡ tick_in event
          go (k, i, a, b, inl e) = absurd (true≢false (sym (opening_digits (opens (tasks_table tasks) k i) k (omega (arith, F.few_tasks))).0 ∙ ap is_opening (sym e) ∙ o))
          go (k, i, a, b, inr e) =
              let t : tick_in event ≡ closes (tasks_table tasks) k i = ap tick_in e ∙ (closing_digits (closes (tasks_table tasks) k i) k (omega (arith, F.few_tasks))).2 in
              omega (arith, F.window k a)

      turn_is : (c : Choice) → turn_of (task_of tasks (task_in event)) (first (task_in event) (reads_in grid s (task_in event)) (writes_in grid s (task_in event))) event c ≡ choose tab s c event
      unfolding turn_of acted
      turn_is c =
          let k = task_in event in
          let t = tick_in event in
          let r = reads_in grid s k in
          let w = writes_in grid s k in
          rw (read_where (task_of tasks k) r (get_or numbers.readers k 0) t c, written_where (task_of tasks k) w (get_or numbers.writers k 0) k t _, none_more w (get_or numbers.writers k 0), R.readers k one_task, R.writers k one_task)
          (split (is_opening event) (λ q. rw q) (λ q. rw (q, closes_later q)))

      after_one : (uses : List ℕ) (c d : Choice) (r w : Bool) → r ≡ reads_in grid s (task_in event) → w ≡ writes_in grid s (task_in event) → After uses n c
          → d ≡ turn_of (task_of tasks (task_in event)) (first (task_in event) r w) event c → After uses (n + 1) d
      after_one uses c d r w x z a e =
          e
          ∙ ap (λ r. turn_of (task_of tasks (task_in event)) (first (task_in event) r w) event c) x
          ∙ ap (λ w. turn_of (task_of tasks (task_in event)) (first (task_in event) (reads_in grid s (task_in event)) w) event c) z
          ∙ turn_is c
          ∙ ap (λ xs. choose tab s c (get_or xs n 0)) same_events
          ∙ ap (λ c. choose tab s c (get_or (events tab) n 0)) a
          ∙ sym (through_turn (choose tab s) (unchosen tab s uses) (events tab) n (omega (arith, counted)))

      pub after_turn : {k : ℕ} → k ≡ task_in event → (uses : List ℕ) {c d : Choice} {r w : Bool} {x z : Option ℕ} → r ≡ reads_in grid s k → w ≡ writes_in grid s k
          → x ≡ then_some r (get_or numbers.readers k 0) → z ≡ then_some w (get_or numbers.writers k 0) → After uses n c → d ≡ turn_of (task_of tasks k) (record { read = x; write = z }) event c → After uses (n + 1) d
      after_turn {k} j uses {c} {d} {r} {w} a b p q l e =
          after_one uses c d r w (subst (λ k. r ≡ reads_in grid s k) j a) (subst (λ k. w ≡ writes_in grid s k) j b) l
          (e ∙ ap₂ (λ (x z : Option ℕ). turn_of (task_of tasks k) (record { read = x; write = z }) event c) p q ∙ ap (λ k. turn_of (task_of tasks k) (first k r w) event c) j)
