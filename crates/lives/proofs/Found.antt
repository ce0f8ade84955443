-- Along the openings and closings of a hyper-period the code finds the live list of a signal. Assumes nothing.
use mathlib.Core.Bool.{Bool, true, false}
use mathlib.Core.List.{List, [], ◌∷◌, ◌++◌, map, append-nil}
use mathlib.Core.Logic.{inl, inr}
use mathlib.Core.Path.{◌≡◌, refl, sym, ap, ap₂, subst, ◌∙◌}
use Prim.Native.Nat.{ℕ, zero, suc, ◌+◌, ◌/◌, ◌≤◌, ◌<◌}
use native.Mathlib.Numerals.{add-one}
use native.Mathlib.Omega.{arith}
use lib.ListN.{length, get_or, set, take, replicate, length-append, length-map}
use Rattle.rules.specs.Words.{gather, only}
use Rattle.rules.specs.Windows.{Table, opens, closes}
use Rattle.rules.specs.Values.{carried, by, Life, life}
use Rattle.rules.specs.Table.{most_values, most_elements, Fits}
use Rattle.rules.specs.Plan.{Placed, line_of, lives_of}
use Rattle.rules.specs.Reading.{Grid, writes_in, reads_in}
use Rattle.rules.specs.declared.Tasks.{Tasks}
use Rattle.theory.specs.Sweep.{task_in, is_opening, events}
use Rattle.theory.specs.Untils.{first_free, hold, holding, fold, untils}
use Rattle.theory.proofs.Tests.{both, holds, not_both}
use Rattle.theory.proofs.Time.{instance_is, closes_le}
use Rattle.theory.proofs.Lists.{all_at}
use Rattle.theory.proofs.Swept.{opening_digits, closing_digits}
use Rattle.theory.proofs.Events.{IsEvent, events_all}
use Rattle.theory.proofs.Order.{lives_length}
use Rattle.theory.proofs.Untils.{plan_fold, count_fold}
use Rattle.theory.proofs.Seats.{plan_most}
use Rattle.signals.specs.Forms.{until_of}
use Rattle.signals.proofs.Lives.{until_is}
use Rattle.events.specs.Order.{tasks_table, ordered}
use Rattle.events.specs.declared.Events.{Events}
use Rattle.std.proofs.Math.Seq.{take-append_seam}
use Rattle.events.proofs.Alone.{events_alone}
use Rattle.elements.specs.Steps.{free_in}
use Rattle.accept.specs.Accepts.{its_table}
use Rattle.accept.specs.declared.Accepted.{Accepted}
use Rattle.lives.specs.declared.LiveValue.{LiveValue}
use Rattle.lives.specs.Lives.{value_of, live_values}
use Rattle.lives.specs.Values.{shown, blank, padded, writes_at, life_by, carried_by, Opening, lives_below, Held}
use Rattle.lives.proofs.Along.{gather_more, gather_same, opened_by, opened, opened_all}
use Rattle.lives.proofs.Held.{untils_grow, length_fold, held_more}
use Rattle.lives.proofs.Few.{few_values}

map_gather : {A B : Type 0} (f : A → B) (g : ℕ → List A) (n : ℕ) → map f (gather n g) ≡ gather n (λ k. map f (g k))
unfolding gather
map_gather f g zero = refl
map_gather {B} f g (suc n) = map_append (gather n g) (g n) ∙ ap (λ (l : List B). l ++ map f (g n)) (map_gather f g n)
  where
    map_append : (xs ys : List _) → map f (xs ++ ys) ≡ map f xs ++ map f ys
    map_append [] ys = refl
    map_append (x ∷ xs) ys = ap {B = List B} (λ l. f x ∷ l) (map_append xs ys)

map_lines : (ps : List Placed) → map shown ps ≡ map value_of (map line_of ps)
map_lines [] = refl
map_lines (p ∷ ps) = ap {B = List LiveValue} (λ l. shown p ∷ l) (map_lines ps)

-- the places in use are the openings and closings
pub turns_are : (tasks : Tasks) {turns : Events} → turns ≡ ordered (tasks_table tasks) → {list : List ℕ} → list ≡ take turns.count turns.list → list ≡ events (tasks_table tasks)
turns_are tasks e n = n ∙ ap (λ (t : Events). take t.count t.list) e ∙ take-append_seam (events (tasks_table tasks)) _

-- an accepted table, and one of its signals
module _ (a : Accepted) (s : ℕ) (known : s < a.signals.count) where
  abbrev tasks : Tasks
  tasks = a.tasks

  abbrev grid : Grid
  grid = a.grid

  abbrev tab : Table
  tab = its_table a

  abbrev F : Fits tab
  F = a.fits

  -- ---- one opening

  record Opened (n : ℕ) : Type 0 where
    pub same : life_by a s n ≡ life tab (opened_by tab F s n)
    pub opening : Opening tasks s n

  one_opened : (n : ℕ) → IsEvent tab n → writes_at (writes_in grid s) n ≡ true → Opened n
  one_opened n (k, i, l, m, inl e) w =
      let d = opening_digits (opens tab k i) k (omega (arith, F.few_tasks)) in
      let j : opens tab k i / tab.period k ≡ i = instance_is tab F k i (opens tab k i) l (omega arith) (omega (arith, F.window k l)) in
      let x : writes_in grid s k ≡ true = subst (λ (k : ℕ). writes_in grid s k ≡ true) (ap task_in e ∙ d.1) (both (is_opening n) (writes_in grid s (task_in n)) w).1 in
      let y = closes_le tab F k i l m in
      record {
        same = rw (e, d.1, d.2, j) (ap (λ (u : ℕ). record { value = by s k i; from = opens tab k i; until = u })
            (ap (λ (h : ℕ). until_at h k i) a.own ∙ until_is tasks a.signals grid F (by s k i) (known, l, holds x, m)));
        opening = record {
          signal = omega (arith, known, F.few_signals);
          task = rw (e, d.1) l;
          tick = rw (e, d.2) (omega (arith, y, F.window k l, F.hyper_short));
          closing = rw (e, d.1, d.2, j) (omega (arith, y, F.hyper_short));
        };
      }
    where
      until_at : ℕ → ℕ → ℕ → ℕ
      until_at h k i = until_of tasks (writes_in grid s) (reads_in grid s) h (closes tab k i)
  one_opened n (k, i, l, m, inr e) w =
      let d = closing_digits (closes tab k i) k (omega (arith, F.few_tasks)) in
      absurd (not_both (both (is_opening n) (writes_in grid s (task_in n)) w).0 (ap is_opening e ∙ d.0))

  -- ---- the openings and closings in their order

  same_events : events (tasks_table tasks) ≡ events tab
  same_events = sym (events_alone tasks a.signals grid)

  module _ (list : List ℕ) (q : list ≡ events (tasks_table tasks)) where
    listed : list ≡ events tab
    listed = q ∙ same_events

    is_event : (n : ℕ) → n < length list → IsEvent tab (get_or list n 0)
    is_event n l = rw listed (all_at (IsEvent tab) 0 (events tab) (events_all tab F) n (omega (arith, ap length listed)))

    abbrev pub lives : ℕ → List Life
    lives n = lives_below a s list n

    pub opens_one : (n : ℕ) → n < length list → writes_at (writes_in grid s) (get_or list n 0) ≡ true → Opening tasks s (get_or list n 0)
    opens_one n l w = (one_opened (get_or list n 0) (is_event n l) w).opening

    -- at the end they are those of the signal's values in plan order
    same_lives : (b : Bool) (n : ℕ) → (b ≡ true → life_by a s n ≡ life tab (opened_by tab F s n)) → only b (life_by a s n) ≡ map (life tab) (only b (opened_by tab F s n))
    same_lives true n f = ap (λ (l : Life). l ∷ []) (f refl)
    same_lives false n f = refl

    carried_is : carried_by a s ≡ life tab (carried s)
    carried_is = ap (λ (u : ℕ). record { value = carried s; from = 0; until = u }) (ap (λ (h : ℕ). until_of tasks (writes_in grid s) (reads_in grid s) h 0) a.own ∙ until_is tasks a.signals grid F (carried s) known)

    pub lives_all : lives (length list) ≡ lives_of tab s
    unfolding lives_below
    lives_all =
        ap₂ ◌∷◌ carried_is (gather_same _ (λ i. map (life tab) (opened tab F s (get_or (events tab) i 0))) (length list) (λ i l.
        same_lives (writes_at (writes_in grid s) (get_or list i 0)) (get_or list i 0) (λ w. (one_opened (get_or list i 0) (is_event i l) w).same)
        ∙ ap (λ (xs : List ℕ). map (life tab) (opened tab F s (get_or xs i 0))) listed)
        ∙ sym (map_gather (life tab) (λ i. opened tab F s (get_or (events tab) i 0)) (length list))
        ∙ ap (λ (n : ℕ). map (life tab) (gather n (λ i. opened tab F s (get_or (events tab) i 0)))) (ap length listed)
        ∙ ap (map (life tab)) (opened_all tab F s))

    -- no more than there is room for
    more : (n : ℕ) → n ≤ length list → (rest : List Life) × (lives_of tab s ≡ lives n ++ rest)
    unfolding lives_below
    more n l =
        let (rest, e) = gather_more (λ i. only (writes_at (writes_in grid s) (get_or list i 0)) (life_by a s (get_or list i 0))) n (length list) l in
        (rest, sym lives_all ∙ ap {B = List Life} (λ ls. carried_by a s ∷ ls) e)

    few_lives : (n : ℕ) → n ≤ length list → length (lives n) ≤ most_values
    few_lives n l =
        let (rest, e) = more n l in
        omega (arith, ap length e, length-append (lives n) rest, lives_length tab F s known, few_values tab F s known)

    few_held : (n : ℕ) → n ≤ length list → length (untils [] (lives n)) ≤ most_elements
    few_held n l =
        let (rest, e) = more n l in
        omega (arith, untils_grow [] (lives n) rest, ap (λ (ls : List Life). length (untils [] ls)) e, count_fold tab F s known, plan_most tab F s known)

    -- ---- the loop: its start, a turn with and without a value, its end

    pub starts : {u : ℕ} → u ≡ (carried_by a s).until
        → Held (lives 0) (set (replicate most_elements 0) 0 u) (set (replicate most_values blank) 0 (record { task = 255; instance = 0; from = 0; until = u; element = 0 })) 1
    unfolding lives_below gather fold untils holding hold first_free
    starts e = rw e (record { number = refl; records = refl; ticks = refl })

    lives_more : (n : ℕ) → writes_at (writes_in grid s) (get_or list n 0) ≡ true → lives (n + 1) ≡ lives n ++ life_by a s (get_or list n 0) ∷ []
    unfolding lives_below gather
    lives_more n w = rw (add-one n, w)

    pub passes_by : (n : ℕ) → writes_at (writes_in grid s) (get_or list n 0) ≡ false → lives (n + 1) ≡ lives n
    unfolding lives_below gather
    passes_by n w = rw (add-one n, w) (ap {B = List Life} (λ ls. carried_by a s ∷ ls) (append-nil (gather n (λ i. only (writes_at (writes_in grid s) (get_or list i 0)) (life_by a s (get_or list i 0))))))

    module _ (n : ℕ) (l : n < length list) (w : writes_at (writes_in grid s) (get_or list n 0) ≡ true) (held : List ℕ) (values : List LiveValue) (count : ℕ) (K : Held (lives n) held values count) where
      abbrev one : Life
      one = life_by a s (get_or list n 0)

      pub room : count < most_values
      room = omega (arith, K.number, few_lives (n + 1) (omega arith), ap length (lives_more n w), length-append (lives n) (one ∷ []))

      pub finds : (r : LiveValue) (after : List ℕ) → r ≡ shown (record { life = one; element = free_in held one.from }) → after ≡ set held (free_in held one.from) one.until
          → Held (lives (n + 1)) after (set values count r) (count + 1)
      finds r after a b =
          subst (λ (ls : List Life). Held ls after (set values count r) (count + 1)) (sym (lives_more n w))
          (rw (a, b) (held_more (lives n) one held values count K (omega (arith, room, K.number)) (omega (arith, few_held (n + 1) (omega arith), ap (λ (ls : List Life). length (untils [] ls)) (lives_more n w)))))

    -- the records are the live list
    shown_all : map shown (fold [] (lives_of tab s)) ≡ live_values tab s
    unfolding live_values
    shown_all = map_lines (fold [] (lives_of tab s)) ∙ ap (λ (ps : List Placed). map value_of (map line_of ps)) (sym (plan_fold tab F s known))

    list_length : length (live_values tab s) ≡ length (lives_of tab s)
    list_length = ap length (sym shown_all) ∙ length-map (fold [] (lives_of tab s)) shown ∙ length_fold [] (lives_of tab s)

    module _ (n : ℕ) (e : n ≡ length list) (held : List ℕ) (values : List LiveValue) (count : ℕ) (K : Held (lives n) held values count) where
      pub all_counted : (count ≡ length (live_values tab s)) × (count ≤ most_values)
      all_counted =
          let z : count ≡ length (live_values tab s) = K.number ∙ ap (λ (n : ℕ). length (lives n)) e ∙ ap length lives_all ∙ sym list_length in
          (z, omega (arith, K.number, few_lives n (omega arith)))

      pub all_found : values ≡ padded (live_values tab s)
      all_found = K.records ∙ ap (λ (n : ℕ). padded (map shown (fold [] (lives n)))) e ∙ ap (λ (ls : List Life). padded (map shown (fold [] ls))) lives_all ∙ ap padded shown_all
