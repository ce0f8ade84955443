-- Taking the least of each task's next openings and closings gives all of them in their order. Assumes nothing.
use mathlib.Core.List.{List, [], ◌∷◌, ◌++◌}
use mathlib.Core.Logic.{inl, inr, ⊎_elim}
use mathlib.Core.Path.{◌≡◌, refl, sym, ap, ◌∙◌}
use Prim.Native.Nat.{ℕ, suc, ◌+◌, ◌*◌, ◌-◌, ◌≤◌, ◌<◌, zero-le}
use native.Mathlib.Nat.{mul-le-mul_right}
use native.Mathlib.Omega.{arith}
use lib.Dec.{leb, ltb, eqb}
use lib.ListN.{length, get_or, set, replicate, length-append, length-set}
use lib.Seq.{get_or-set_same, get_or-set_other}
use borrow.Author.Tests.{leb-true, leb-false, ltb-true, ltb-false, eqb-true, eqb-false}
use Rattle.rules.specs.Windows.{Table, opens, closes, instances, hyper}
use Rattle.rules.specs.Table.{most_tasks, Fits}
use Rattle.rules.specs.Reading.{task_of}
use Rattle.rules.specs.declared.Tasks.{Tasks}
use Rattle.theory.specs.Sweep.{closing_number, opening_number, task_in}
use Rattle.theory.proofs.Tests.{split}
use Rattle.theory.proofs.Hyper.{divides}
use Rattle.theory.proofs.Time.{closes_le}
use Rattle.theory.proofs.Lists.{In, in_left, in_right, All, all_append, rising_append}
use Rattle.theory.proofs.Swept.{opening_digits, closing_digits}
use Rattle.theory.proofs.Events.{itself, Up, Numbers, IsEvent, events_are, few_events}
use Rattle.events.specs.Order.{tasks_table, FirstOpenings, following_of, Leads, most_events, ordered}
use Rattle.events.specs.declared.Events.{Events}

-- ---- one more number in an array

set_next : (xs zs : List ℕ) (z e : ℕ) → set (xs ++ z ∷ zs) (length xs) e ≡ (xs ++ e ∷ []) ++ zs
set_next [] zs z e = refl
set_next (x ∷ xs) zs z e = ap {B = List ℕ} (λ r. x ∷ r) (set_next xs zs z e)

put_next : (room : ℕ) (xs : List ℕ) (e : ℕ) → length xs < room → set (xs ++ replicate (room - length xs) 0) (length xs) e ≡ (xs ++ e ∷ []) ++ replicate (room - (length xs + 1)) 0
put_next room xs e h =
    let z : room - length xs ≡ suc (room - (length xs + 1)) = omega arith in
    rw z (set_next xs (replicate (room - (length xs + 1)) 0) 0 e)

-- ---- the numbers of one task

module _ (tasks : Tasks) (F : Fits (tasks_table tasks)) where
  abbrev tab : Table
  tab = tasks_table tasks

  abbrev Number : ℕ → ℕ → Type 0
  Number k n = (i : ℕ) × Numbers tab k i n

  number_task : (k n : ℕ) → k < tab.tasks → Number k n → task_in n ≡ k
  number_task k n h (i, inl e) = rw e (opening_digits (opens tab k i) k (omega (arith, F.few_tasks))).1
  number_task k n h (i, inr e) = rw e (closing_digits (closes tab k i) k (omega (arith, F.few_tasks))).1

  -- an instance that opens before another one's end is no later one
  no_later : (k i j : ℕ) → k < tab.tasks → opens tab k j < closes tab k i → j ≤ i
  no_later k i j h l =
      split (leb j i)
      (λ q. leb-true j i q)
      (λ q. absurd (omega (arith, F.within k h, mul-le-mul_right (tab.period k) (leb-false j i q))))

  -- where n is a number of the task, so is the following one, and there is none between
  pub record Follows (k n f : ℕ) : Type 0 where
    pub number : Number k f
    pub later : n < f
    pub next : (m : ℕ) → Number k m → m < f → m ≤ n

  after_opening : (k i : ℕ) → k < tab.tasks → Follows k (opening_number (opens tab k i) k) (closing_number (closes tab k i) k)
  after_opening k i h = record { number = (i, inr refl); later = omega (arith, F.window k h); next = next }
    where
      next : (m : ℕ) → Number k m → m < closing_number (closes tab k i) k → m ≤ opening_number (opens tab k i) k
      next m (j, inl e) l = let z = no_later k i j h (omega arith) in omega (arith, mul-le-mul_right (tab.period k) z)
      next m (j, inr e) l =
          let z = no_later k i j h (omega (arith, F.window k h)) in
          let w : ¬ (j ≡ i) = λ q. let x : ⊥ = omega (arith, ap (closes tab k) q) in x in
          let y : suc j ≤ i = omega arith in
          omega (arith, mul-le-mul_right (tab.period k) y, F.within k h)

  after_closing : (k i : ℕ) → k < tab.tasks → Follows k (closing_number (closes tab k i) k) (opening_number (opens tab k (suc i)) k)
  after_closing k i h = record { number = (suc i, inl refl); later = omega (arith, F.within k h); next = next }
    where
      upto : (j : ℕ) → opens tab k j < opens tab k (suc i) → j ≤ i
      upto j l = split (leb j i) (λ q. leb-true j i q) (λ q. absurd (omega (arith, mul-le-mul_right (tab.period k) (leb-false j i q))))

      next : (m : ℕ) → Number k m → m < opening_number (opens tab k (suc i)) k → m ≤ closing_number (closes tab k i) k
      next m (j, inl e) l = let z = upto j (omega arith) in omega (arith, mul-le-mul_right (tab.period k) z, F.window k h)
      next m (j, inr e) l = let z = upto j (omega (arith, F.window k h)) in omega (arith, mul-le-mul_right (tab.period k) z)

  pub following_follows : (k n : ℕ) → k < tab.tasks → Number k n → Follows k n (following_of (task_of tasks k) n)
  unfolding following_of
  following_follows k n h (i, inl e) =
      let d = opening_digits (opens tab k i) k (omega (arith, F.few_tasks)) in
      let z : opening_number (opens tab k i) k + (tab.end k - tab.start k) * (2 * most_tasks) - most_tasks ≡ closing_number (closes tab k i) k = omega (arith, F.window k h) in
      rw (e, d.0, z) (after_opening k i h)
  following_follows k n h (i, inr e) =
      let d = closing_digits (closes tab k i) k (omega (arith, F.few_tasks)) in
      let z : closing_number (closes tab k i) k + (tab.period k - tab.end k + tab.start k) * (2 * most_tasks) + most_tasks ≡ opening_number (opens tab k (suc i)) k = omega (arith, F.within k h) in
      rw (e, d.0, z) (after_closing k i h)

  -- ---- events are the numbers up to the end of the hyper-period

  abbrev pub limit : ℕ
  limit = hyper tab * (2 * most_tasks) + most_tasks

  event_below : (n : ℕ) → IsEvent tab n → n < limit
  event_below n (k, i, h, l, inl e) = omega (arith, F.few_tasks, F.window k h, closes_le tab F k i h l)
  event_below n (k, i, h, l, inr e) = omega (arith, F.few_tasks, closes_le tab F k i h l)

  below_event : (k n : ℕ) → k < tab.tasks → Number k n → n < limit → IsEvent tab n
  below_event k n h (i, c) l = (
    k,
    i,
    h,
    split (ltb i (instances tab k)) (λ q. ltb-true i (instances tab k) q) (λ q. absurd (⊎_elim
        (λ e. omega (arith, divides tab F k h, mul-le-mul_right (tab.period k) (ltb-false i (instances tab k) q)))
        (λ e. omega (arith, F.window k h, divides tab F k h, mul-le-mul_right (tab.period k) (ltb-false i (instances tab k) q)))
        c)),
    c,
  )

  -- ---- the merge

  -- x is the first number of task k from `from` on
  pub record Candidate (k from x : ℕ) : Type 0 where
    pub number : Number k x
    pub since : from ≤ x
    pub next : (n : ℕ) → Number k n → n < x → n < from

  -- those below `from` are taken, and stand at the front of the list
  pub record Merged (list : List ℕ) (count : ℕ) (next : List ℕ) : Type 0 where
    pub taken : List ℕ
    pub from : ℕ
    pub stored : list ≡ taken ++ replicate (most_events - count) 0
    pub size : count ≡ length taken
    pub up : Up 0 taken from
    pub right : All (IsEvent tab) taken
    pub all : (n : ℕ) → IsEvent tab n → n < from → In n taken
    pub width : length next ≡ most_tasks
    pub candidate : (k : ℕ) → k < tab.tasks → Candidate k from (get_or next k 0)

  pub merge_starts : (next : List ℕ) → length next ≡ most_tasks → FirstOpenings tasks tab.tasks next → Merged (replicate most_events 0) 0 next
  merge_starts next w f = record {
    taken = [];
    from = 0;
    stored = refl;
    size = refl;
    up = zero-le;
    right = tt;
    all = λ n e l. absurd (omega arith);
    width = w;
    candidate = λ k h. rw (f k h) (record { number = (0, inl (omega arith)); since = zero-le; next = λ n x l. absurd (first k n h x l) });
  }
    where
      first : (k n : ℕ) → k < tab.tasks → Number k n → n < opening_number (tab.start k) k → ⊥
      first k n h (i, inl e) l = omega arith
      first k n h (i, inr e) l = omega (arith, F.window k h)

  module _ (list next : List ℕ) (count k : ℕ) (M : Merged list count next) (L : Leads next tab.tasks k) where
    abbrev event : ℕ
    event = get_or next k 0

    module _ (l : event < limit) where
      is_event : IsEvent tab event
      is_event = below_event k event L.one (M.candidate k L.one).number l

      more_up : Up 0 (M.taken ++ event ∷ []) (suc event)
      more_up = rising_append itself 0 M.from (suc event) M.taken (event ∷ []) M.up ((M.candidate k L.one).since, omega arith)

      more_right : All (IsEvent tab) (M.taken ++ event ∷ [])
      more_right = all_append (IsEvent tab) M.taken (event ∷ []) M.right (is_event, tt)

      pub merge_room : count < most_events
      merge_room = omega (arith, few_events tab F 0 (suc event) (M.taken ++ event ∷ []) more_up more_right, length-append M.taken (event ∷ []), M.size, F.few_instances)

      pub merge_turn : Merged (set list count event) (count + 1) (set next k (following_of (task_of tasks k) event))
      merge_turn = record {
        taken = M.taken ++ event ∷ [];
        from = suc event;
        stored = rw (M.stored, M.size) (put_next most_events M.taken event (omega (arith, merge_room, M.size)));
        size = omega (arith, length-append M.taken (event ∷ []), M.size);
        up = more_up;
        right = more_right;
        all = all;
        width = length-set next k (following_of (task_of tasks k) event) ∙ M.width;
        candidate = candidate;
      }
        where
          -- of the others only the event itself is not below the one after it
          all : (n : ℕ) → IsEvent tab n → n < suc event → In n (M.taken ++ event ∷ [])
          all n x h =
              split (ltb n M.from)
              (λ q. in_left n M.taken (event ∷ []) (M.all n x (ltb-true n M.from q)))
              (λ q. in_right n M.taken (event ∷ []) (inl (same x (ltb-false n M.from q))))
            where
              same : IsEvent tab n → M.from ≤ n → event ≡ n
              same (j, i, a, b, c) d =
                  split (ltb n (get_or next j 0))
                  (λ q. absurd (omega (arith, (M.candidate j a).next n (i, c) (ltb-true n (get_or next j 0) q))))
                  (λ q. omega (arith, ltb-false n (get_or next j 0) q, L.low j a))

          candidate : (j : ℕ) → j < tab.tasks → Candidate j (suc event) (get_or (set next k (following_of (task_of tasks k) event)) j 0)
          candidate j a =
              split (eqb j k)
              (λ q. let f = following_follows k event L.one (M.candidate k L.one).number in
              rw (eqb-true j k q, get_or-set_same next k (following_of (task_of tasks k) event) 0 (omega (arith, M.width, L.one, F.few_tasks)))
              (record { number = f.number; since = f.later; next = λ n x b. omega (arith, f.next n x b) }))
              (λ q.
              let C = M.candidate j a in
              let d : ¬ (event ≡ get_or next j 0) = λ e. eqb-false j k q (sym (number_task j (get_or next j 0) a C.number) ∙ ap task_in (sym e) ∙ number_task k event L.one (M.candidate k L.one).number) in
              rw (get_or-set_other next k j (following_of (task_of tasks k) event) 0 (eqb-false j k q))
              (record { number = C.number; since = omega (arith, L.low j a); next = λ n x b. omega (arith, C.next n x b, (M.candidate k L.one).since) }))

    -- past the end of the hyper-period all are taken
    pub merge_ends : limit ≤ event → ◌≡◌ {A = Events} (record { list = list; count = count }) (ordered tab)
    merge_ends h = rw (M.stored, M.size, events_are tab F 0 M.from M.taken M.up M.right (λ n x. M.all n x (before n x)))
      where
        before : (n : ℕ) → IsEvent tab n → n < M.from
        before n (j, i, a, b, c) = (M.candidate j a).next n (i, c) (omega (arith, event_below n (j, i, a, b, c), L.low j a))
