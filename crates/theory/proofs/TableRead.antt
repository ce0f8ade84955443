-- What was read of a table, as three lists: bytes that are accepted are written back from them, and all keep rules 3 and 4. Assumes nothing.
use Prim.Native.Nat.{ℕ, zero, suc, ◌+◌, ◌≤◌, ◌<◌}
use mathlib.Core.Path.{◌≡◌, refl, sym, ap, subst, ◌∙◌}
use mathlib.Core.Bool.{true, not}
use mathlib.Core.List.{List, ◌∷◌, ◌++◌, flat_map}
use native.Mathlib.Omega.{arith}
use lib.Dec.{ltb}
use lib.ListN.{length, get_or, drop, drop_of_length-le}
use borrow.Author.Tests.{leb-true, ltb-true, ltb-false, not-false}
use Rattle.rules.specs.Windows.{Table}
use Rattle.rules.specs.Table.{most_tasks, most_signals, most_accesses, windowed, window_fits}
use Rattle.rules.specs.Fields.{EN, holds_at, mark_at}
use Rattle.rules.specs.Records.{Step, End, access_at, end_at}
use Rattle.rules.specs.Reading.{Section, section, follow, from, no_task, no_tasks, tasks_in, no_signals, signals_in, signals_of, put_access, accesses_from, accesses_in, accesses_of, Marked, put_marked, no_marked, marked_from, grid_from, grid_in, table_of, table_in, ended, verdict, read_says, end_of}
use Rattle.rules.specs.Answers.{table_says}
use Rattle.rules.specs.declared.Task.{Task}
use Rattle.rules.specs.declared.Access.{Access}
use Rattle.theory.specs.Promises.{Read}
use Rattle.theory.specs.TableBytes.{Wide, AreBytes, WrittenBack, ReadKeeps}
use Rattle.theory.proofs.Tests.{both3, when_right}
use Rattle.theory.proofs.Lists.{All, all_at}
use Rattle.theory.proofs.Hyper.{hyper_is_least}
use Rattle.theory.proofs.Answered.{table_exact}
use Rattle.theory.proofs.Sections.{Kind, Spans, over, stopped, join, puts, Fitting, puts_keep, fitting_all, puts_count, Places, places_few, places_at, Walked, walked, walked_from}
use Rattle.theory.proofs.Records.{task_form, signal_form, access_form, task_kind, task_lawful, signal_kind, signal_lawful, access_kind, access_lawful, mark_written}
use Rattle.theory.proofs.Listed.{task_no, listed, listed_length, listed_at, listed_is, task_list, default_list, access_list, encode_lists, accesses_length}
use Rattle.theory.proofs.Accesses.{grid_lists}

-- what was put into places is the list of what stands in them
places_listed : {A B : Type 0} (K : Kind A B) (P : Places K) (d : A) (b : B) (xs : List A) → length (P.list b) ≡ P.most → P.count b ≡ 0 → Fitting K b xs → listed (λ k. get_or (P.list (puts K b xs)) k d) (P.count (puts K b xs)) ≡ xs
places_listed K P d b xs l z f =
    listed_is d (λ k. get_or (P.list (puts K b xs)) k d) (P.count (puts K b xs)) xs (omega (arith, puts_count K P.count P.put_count b xs)) (places_at K P d b xs l z f)

abbrev pub FitsWindow : Task → Type 0
FitsWindow t = windowed t.period t.start t.end ≡ true

module _ (bytes : List ℕ) where
  -- ---- what was read, as three lists

  abbrev task_places : Places (task_kind bytes)
  task_places = record { list = λ b. b.list; count = λ b. b.count; most = most_tasks; put_list = λ b t. refl; put_count = λ b t. refl; few = λ b t f. f.0 }

  abbrev signal_places : Places (signal_kind bytes)
  signal_places = record { list = λ b. b.defaults; count = λ b. b.count; most = most_signals; put_list = λ b v. refl; put_count = λ b v. refl; few = λ b v f. f }

  -- the accesses and the grid are read in step
  abbrev pub marked_in : Section Marked
  marked_in = from (marked_from bytes (tasks_in bytes).read.count (signals_of bytes).read.count (suc most_accesses) no_marked) no_marked (signals_of bytes).end

  abbrev pub kind : Kind Access Marked
  kind = access_kind bytes (tasks_in bytes).read.count (signals_of bytes).read.count

  in_step : (tasks signals n : ℕ) (b : Marked) (p : ℕ) → (accesses_from bytes tasks signals n b.accesses p).end ≡ (marked_from bytes tasks signals n b p).end
  unfolding section
  in_step tasks signals zero b p = refl
  in_step tasks signals (suc n) b p = go (access_at bytes tasks signals b.accesses.count b.accesses.last p) (in_step tasks signals n)
    where
      go : (s : Step Access) → ((c : Marked) (q : ℕ) → (accesses_from bytes tasks signals n c.accesses q).end ≡ (marked_from bytes tasks signals n c q).end)
          → (follow put_access (accesses_from bytes tasks signals n) b.accesses p s).end ≡ (follow put_marked (marked_from bytes tasks signals n) b p s).end
      go (Step.taken x q) more = more (put_marked b x) q
      go Step.other more = refl
      go (Step.refused t) more = refl

  pub same_end : (e : End) (tasks signals : ℕ) → (accesses_in bytes tasks signals e).end ≡ (from (marked_from bytes tasks signals (suc most_accesses) no_marked) no_marked e).end
  unfolding accesses_in
  same_end (End.at p) tasks signals = in_step tasks signals (suc most_accesses) no_marked p
  same_end (End.refused t) tasks signals = refl

  tasks_walked : Walked (task_kind bytes) bytes no_tasks (End.at 0) (tasks_in bytes)
  unfolding tasks_in
  tasks_walked = walked (task_kind bytes) bytes (task_lawful bytes) (suc most_tasks) no_tasks 0

  signals_walked : Walked (signal_kind bytes) bytes no_signals (tasks_in bytes).end (signals_of bytes)
  unfolding signals_in
  signals_walked = walked_from (signal_kind bytes) bytes (signal_lawful bytes) (suc most_signals) no_signals (tasks_in bytes).end

  accesses_walked : Walked kind bytes no_marked (signals_of bytes).end marked_in
  accesses_walked = walked_from kind bytes (access_lawful bytes (tasks_in bytes).read.count (signals_of bytes).read.count) (suc most_accesses) no_marked (signals_of bytes).end

  few_tasks : (tasks_in bytes).read.count ≤ most_tasks
  few_tasks = let w = tasks_walked in rw w.read (places_few (task_kind bytes) task_places no_tasks w.records w.fit (omega arith))

  few_signals : (signals_of bytes).read.count ≤ most_signals
  few_signals = let w = signals_walked in rw w.read (places_few (signal_kind bytes) signal_places no_signals w.records w.fit (omega arith))

  -- the lists of the table that was read are those put into it

  pub tasks_are : (ts : List Task) → Fitting (task_kind bytes) no_tasks ts → (tasks_in bytes).read ≡ puts (task_kind bytes) no_tasks ts → task_list (table_in bytes) ≡ ts
  unfolding table_in
  tasks_are ts f e = rw e (places_listed (task_kind bytes) task_places no_task no_tasks ts refl refl f)

  pub defaults_are : (ds : List ℕ) → Fitting (signal_kind bytes) no_signals ds → (signals_of bytes).read ≡ puts (signal_kind bytes) no_signals ds → default_list (table_in bytes) ≡ ds
  unfolding table_in
  defaults_are ds f e = rw e (places_listed (signal_kind bytes) signal_places 0 no_signals ds refl refl f)

  pub accesses_are : (xs : List Access) → Fitting kind no_marked xs → marked_in.read ≡ puts kind no_marked xs → access_list (table_in bytes) ≡ xs
  unfolding table_in grid_in grid_from
  accesses_are xs f e = ap (λ m. access_list (table_of (tasks_in bytes).read (signals_of bytes).read m.grid)) e ∙ grid_lists bytes (tasks_in bytes).read (signals_of bytes).read few_tasks few_signals xs f

  -- ---- rules 3 and 4

  windows : All FitsWindow (task_list (table_in bytes))
  windows =
      let w = tasks_walked in
      subst (All FitsWindow) (sym (tasks_are w.records w.fit w.read)) (fitting_all (task_kind bytes) FitsWindow (λ b t f. f.1) no_tasks w.records w.fit)

  few_accesses : length accesses_walked.records ≤ most_accesses
  few_accesses =
      let w = accesses_walked in
      let n = puts_keep kind (λ b. b.accesses.count ≤ most_accesses) (λ b x f q. omega (arith, f.few)) no_marked w.records w.fit (omega arith) in
      omega (arith, n, puts_count kind (λ b. b.accesses.count) (λ b x. refl) no_marked w.records)

  read : Read (table_in bytes)
  unfolding table_in window_fits
  read = record {
    few_tasks = few_tasks;
    few_signals = few_signals;
    few_accesses =
        let w = accesses_walked in
        omega (arith, few_accesses, accesses_length (table_in bytes), ap length (accesses_are w.records w.fit w.read));
    windows = λ k h.
        subst FitsWindow (listed_at no_task (task_no (table_in bytes)) (table_in bytes).tasks k h)
        (all_at FitsWindow no_task (task_list (table_in bytes)) windows k (omega (arith, listed_length (task_no (table_in bytes)) (table_in bytes).tasks)));
  }

  -- ---- what was read is accepted

  -- EN stands there and nothing after it, and the whole table is right
  end_right : (tab : Table) (p : ℕ) → (verdict tab (end_at bytes p)).number ≡ 0 → ((table_says tab).number ≡ 0) × (drop p bytes ≡ EN) × (end_at bytes p ≡ End.at (p + 2))
  unfolding verdict end_at
  end_right tab p =
      let Q : End → Type 0 = λ e. (verdict tab e).number ≡ 0 → ((table_says tab).number ≡ 0) × (drop p bytes ≡ EN) × (e ≡ End.at (p + 2)) in
      when_right Q (not (holds_at bytes p 2)) _ _ (λ h e. absurd (omega arith)) (λ h.
      when_right Q (not (mark_at bytes p EN)) _ _ (λ m e. absurd (omega arith)) (λ m.
      when_right Q (ltb (p + 2) (length bytes)) _ _ (λ l e. absurd (omega arith)) (λ l e. (
        e,
        mark_written bytes p 69 78 (not-false (mark_at bytes p EN) m) ∙ ap (λ l. 69 ∷ 78 ∷ l) (drop_of_length-le bytes {i = p + 2} (ltb-false (p + 2) (length bytes) l)),
        refl,
      ))))

  accepted_spans : (tab : Table) (ys : List ℕ) (e : End) → Spans bytes ys (End.at 0) e → (verdict tab (ended bytes e)).number ≡ 0
      → ((table_says tab).number ≡ 0) × (AreBytes bytes → bytes ≡ ys ++ EN) × ((p : ℕ) × (ended bytes e ≡ End.at p))
  unfolding verdict ended
  accepted_spans tab ys (End.at q) (over f) e = let r = end_right tab q e in (r.0, (λ o. f o ∙ ap {B = List ℕ} (λ l. ys ++ l) r.1), (q + 2, r.2))
  accepted_spans tab ys (End.refused t) (stopped u n) e = absurd (n e)

  -- the bytes of all that was read
  abbrev read_bytes : List ℕ
  read_bytes = flat_map task_form tasks_walked.records ++ flat_map signal_form signals_walked.records ++ flat_map access_form accesses_walked.records

  accepted : (read_says bytes).number ≡ 0 → ((table_says (table_in bytes)).number ≡ 0) × (AreBytes bytes → bytes ≡ read_bytes ++ EN) × ((p : ℕ) × (end_of bytes ≡ End.at p))
  unfolding read_says
  accepted =
      accepted_spans (table_in bytes) read_bytes (accesses_of bytes).end
      (rw (same_end (signals_of bytes).end (tasks_in bytes).read.count (signals_of bytes).read.count) (join (join tasks_walked.spans signals_walked.spans) accesses_walked.spans))

  period_above : (k : ℕ) → k < (table_in bytes).tasks → 0 < (table_in bytes).period k
  unfolding window_fits windowed
  period_above k h =
      let w = both3 (ltb ((table_in bytes).start k) ((table_in bytes).end k)) _ _ (read.windows k h) in
      omega (arith, ltb-true ((table_in bytes).start k) ((table_in bytes).end k) w.0, leb-true ((table_in bytes).end k) ((table_in bytes).period k) w.1)

  pub read_keeps : ReadKeeps bytes
  read_keeps = record {
    read = read;
    least = hyper_is_least (table_in bytes) period_above;
    accepted = λ e. (table_exact (table_in bytes) read).0 (accepted e).0;
    whole = λ e. (accepted e).2;
  }

  read_wide : AreBytes bytes → Wide (table_in bytes)
  read_wide o s h =
      let w = signals_walked in
      let tab = table_in bytes in
      let all = subst (All (signal_kind bytes).Bounded) (sym (defaults_are w.records w.fit w.read)) (w.bounded o) in
      omega (arith, all_at (signal_kind bytes).Bounded 0 (default_list tab) all s (omega (arith, listed_length tab.default tab.signals)), listed_at 0 tab.default tab.signals s h)

  pub written_back : WrittenBack bytes
  written_back o e =
      let t = tasks_walked in
      let d = signals_walked in
      let a = accesses_walked in (
        (accepted e).1 o
            ∙ sym (rw (tasks_are t.records t.fit t.read, defaults_are d.records d.fit d.read, accesses_are a.records a.fit a.read) at (encode_lists (table_in bytes))),
        read_keeps.accepted e,
        read_wide o,
      )
