-- Reading tells the first rule that a record breaks, with its place: specs/FirstRecord.antt, proved. Assumes nothing.
use Prim.Native.Nat.{ℕ, zero, suc, ◌+◌, ◌≤◌, ◌<◌}
use mathlib.Core.Path.{◌≡◌, refl, sym, ap, subst}
use mathlib.Core.Bool.{true, false, not, false≢true}
use mathlib.Core.List.{List, [], ◌∷◌}
use mathlib.Core.Logic.{◌↔◌, ◌≢◌, inl, inr}
use native.Mathlib.Omega.{arith}
use lib.Dec.{leb, ltb, eqb}
use lib.ListN.{length}
use borrow.Author.Tests.{eqb-true, eqb-false, leb-true, leb-false, ltb-true, ltb-false, not-false}
use Rattle.rules.specs.Words.{bit}
use Rattle.rules.specs.Windows.{Table}
use Rattle.rules.specs.Table.{most_tasks, most_signals, most_accesses}
use Rattle.rules.specs.Fields.{TK, SG, EN, holds_at, byte_at, mark_at}
use Rattle.rules.specs.Numbers.{Told, all_done, after_end}
use Rattle.rules.specs.Records.{Step, End, task_at, signal_at, right_at, access_in, access_at, end_at}
use Rattle.rules.specs.Reading.{follow, section, no_tasks, put_task, tasks_in, no_signals, put_signal, signals_in, signals_of, no_accesses, put_access, accesses_in, accesses_of, ended, end_of, table_in, verdict, read_says}
use Rattle.rules.specs.Answers.{table_says}
use Rattle.rules.specs.declared.Task.{Task}
use Rattle.rules.specs.declared.Access.{Access}
use Rattle.rules.specs.declared.Tasks.{Tasks}
use Rattle.rules.specs.declared.Signals.{Signals}
use Rattle.rules.specs.declared.Accesses.{Accesses}
use Rattle.theory.specs.First.{this, later, TableRule, no_task_rule, long_hyper_rule, many_instances_rule, many_uses_rule, two_publish_rule, table_told}
use Rattle.theory.specs.FirstRecord.{BreaksNone, BreaksFirst, Mark, tk, sg, rd, wr, en, record_size, section_of, Record, how_many, InOrder, MarkAt, AccessAt, ReadRule, mark_cut, bad_mark_rule, record_cut, too_many_rule, after_end_rule, read_rules, BrokenRead, read_told, SoFar, start, then, RecordRefused, AllRead, ReadFirst}
use Rattle.theory.proofs.Tests.{split, not_both, no_test, not_is, here, when_right}
use Rattle.theory.proofs.First.{first_one, told_by, done_exactly, table_first}
use Rattle.theory.proofs.OneRecord.{each_mark, one_mark, two_sections, mark_exact, right_rd, right_wr, right_some, LastIs, UpTo, Obeys, takes, tells, pass, in_order, not_a_task, not_an_access, whole_exact, many_exact, access_many, task_obeys, signal_obeys, access_obeys, one_to_six, numbered}

-- ---- one section

module _ (bytes : List ℕ) where
  -- no mark of section s stands at p
  abbrev NoMore : ℕ → ℕ → Type 0
  NoMore s p = (m : Mark) → section_of m ≡ s → MarkAt bytes p m → ⊥

  -- reading stands at p, in section s: no mark of a section before it stands there in order
  record Reached (s : ℕ) (before : List Record) (p : ℕ) : Type 0 where
    so_far : SoFar bytes before p
    up_to : UpTo s before
    past_by : (m : Mark) → section_of m < s → MarkAt bytes p m → InOrder before m → ⊥

  one_more : {s : ℕ} {before : List Record} {p : ℕ} (m : Mark) → section_of m ≡ s → s < 4 → MarkAt bytes p m → BreaksNone bytes before p → Reached s before p
      → Reached s (record { mark = m; place = p } ∷ before) (p + record_size m)
  one_more m e l st n R = record {
    so_far = then m (λ z. omega (arith, ap section_of z)) R.so_far st n;
    up_to = omega arith;
    past_by = λ k h a o. omega arith;
  }

  next_section : {s : ℕ} {before : List Record} {p : ℕ} → NoMore s p → Reached s before p → Reached (suc s) before p
  next_section {s} {before} n R = record {
    so_far = R.so_far;
    up_to = wider before R.up_to;
    past_by = λ m h a o. split (eqb (section_of m) s) (λ e. n m (eqb-true (section_of m) s e) a) (λ e. let z = eqb-false (section_of m) s e in R.past_by m (omega arith) a o);
  }
    where
      wider : (xs : List Record) → UpTo s xs → UpTo (suc s) xs
      wider [] o = tt
      wider (x ∷ xs) o = omega arith

  -- one section: the step that asks for its records, how they are put to those before, how many they are and may be, and what is known of them
  record Scan (A B : Type 0) : Type 1 where
    number : ℕ
    step : B → ℕ → Step A
    put : B → A → B
    count : B → ℕ
    most : ℕ
    Is : B → List Record → ℕ → Type 0

  module _ {A B : Type 0} (S : Scan A B) where
    -- a record is taken, none of the section stands there, or the first broken rule is told
    abbrev Stepped : B → ℕ → Step A → Type 0
    Stepped b p (Step.taken x q) = (before : List Record) × S.Is (S.put b x) before q
    Stepped b p Step.other = NoMore S.number p
    Stepped b p (Step.refused t) = RecordRefused bytes t

    -- so the section ends where no more of its records stand, or is refused
    abbrev Ends : B → End → Type 0
    Ends b (End.at q) = (before : List Record) × S.Is b before q × NoMore S.number q
    Ends b (End.refused t) = RecordRefused bytes t

    record Scans : Type 0 where
      few : (b : B) (before : List Record) (p : ℕ) → S.Is b before p → S.count b ≤ S.most
      one : (b : B) (x : A) → S.count (S.put b x) ≡ S.count b + 1
      steps : (b : B) (before : List Record) (p : ℕ) → S.Is b before p → Stepped b p (S.step b p)

    ends : Scans → (n : ℕ) (b : B) (before : List Record) (p : ℕ) → S.count b + n ≡ suc S.most → S.Is b before p
        → Ends (section S.step S.put n b p).read (section S.step S.put n b p).end
    unfolding section
    ends L zero b before p e i = absurd (omega (arith, L.few b before p i))
    ends L (suc n) b before p e i = go (S.step b p) (L.steps b before p i) (λ c xs q. ends L n c xs q)
      where
        go : (x : Step A) → Stepped b p x → ((c : B) (xs : List Record) (q : ℕ) → S.count c + n ≡ suc S.most → S.Is c xs q → Ends (section S.step S.put n c q).read (section S.step S.put n c q).end)
            → Ends (follow S.put (section S.step S.put n) b p x).read (follow S.put (section S.step S.put n) b p x).end
        go (Step.taken x q) r more = more (S.put b x) r.0 q (omega (arith, L.one b x)) r.1
        go Step.other r more = (before, i, r)
        go (Step.refused t) r more = r

    took : {before : List Record} {p : ℕ} {Q : A → Type 0} {x : Step A} (m : Mark) (b : B) → SoFar bytes before p → Obeys bytes before p Q (p + record_size m) read_rules x
        → ((a : A) → Q a → BreaksNone bytes before p → S.Is (S.put b a) (record { mark = m; place = p } ∷ before) (p + record_size m)) → Stepped b p x
    took {before = before} {p = p} {Q = Q} {x = x} m b r o f = go x o
      where
        go : (x : Step A) → Obeys bytes before p Q (p + record_size m) read_rules x → Stepped b p x
        go _ (takes {x = a} i n) = (record { mark = m; place = p } ∷ before, f a i n)
        go _ (tells t) = record { before = before; place = p; so_far = r; broken = t }

  -- ---- the sections of a table

  abbrev Counted : ℕ → ℕ → ℕ → List Record → Type 0
  Counted tasks signals accesses before = (how_many tk before ≡ tasks) × (how_many sg before ≡ signals) × (how_many rd before ≡ accesses)

  module _ (before : List Record) (p : ℕ) (n : BreaksNone bytes before p) where
    fewer : (most count : ℕ) → (leb most count ≡ true) ↔ BrokenRead bytes before p too_many_rule → count + 1 ≤ most
    fewer most count e = omega (arith, leb-false most count (no_test _ (λ h. n.1.1.1.0 (e.0 h))))

    names_signal : AccessAt bytes p → byte_at bytes (p + 3) < how_many sg before
    names_signal a = leb-false (how_many sg before) (byte_at bytes (p + 3)) (no_test _ (λ e. n.1.1.1.1.1.1.1.0 (a, leb-true (how_many sg before) (byte_at bytes (p + 3)) e)))

  abbrev task_scan : Scan Task Tasks
  task_scan = record {
    number = 1;
    step = λ b. task_at bytes b.count;
    put = put_task;
    count = λ b. b.count;
    most = most_tasks;
    Is = λ b before p. Reached 1 before p × Counted b.count 0 0 before × (b.count ≤ most_tasks);
  }

  task_steps : (b : Tasks) (before : List Record) (p : ℕ) → task_scan.Is b before p → Stepped task_scan b p (task_at bytes b.count p)
  unfolding task_at
  task_steps b before p (R, c, l) =
      split (mark_at bytes p TK)
      (λ e.
      let st = (mark_exact bytes p 84 75).0 e in
      took task_scan tk b R.so_far (task_obeys bytes before p b.count R.up_to c.0 st) (λ t i n.
      (one_more tk refl (omega arith) st n R, (omega arith, omega arith, omega arith), fewer before p n most_tasks b.count (many_exact bytes before p tk st b.count c.0))))
      (λ e. rw (here (not (mark_at bytes p TK)) _ _ (ap not e))
      (each_mark (λ m. section_of m ≡ 1 → MarkAt bytes p m → ⊥) (λ z st. not_both ((mark_exact bytes p 84 75).1 st) e) (λ z. omega arith) (λ z. omega arith) (λ z. omega arith) (λ z. omega arith)))

  task_scans : Scans task_scan
  task_scans = record { few = λ b before p i. i.2; one = λ b t. refl; steps = task_steps }

  abbrev signal_scan : ℕ → Scan ℕ Signals
  signal_scan tasks = record {
    number = 2;
    step = λ b. signal_at bytes b.count;
    put = put_signal;
    count = λ b. b.count;
    most = most_signals;
    Is = λ b before p. Reached 2 before p × Counted tasks b.count 0 before × (b.count ≤ most_signals);
  }

  signal_steps : (tasks : ℕ) (b : Signals) (before : List Record) (p : ℕ) → (signal_scan tasks).Is b before p → Stepped (signal_scan tasks) b p (signal_at bytes b.count p)
  unfolding signal_at
  signal_steps tasks b before p (R, c, l) =
      split (mark_at bytes p SG)
      (λ e.
      let st = (mark_exact bytes p 83 71).0 e in
      took (signal_scan tasks) sg b R.so_far (signal_obeys bytes before p b.count R.up_to c.1 st) (λ t i n.
      (one_more sg refl (omega arith) st n R, (omega arith, omega arith, omega arith), fewer before p n most_signals b.count (many_exact bytes before p sg st b.count c.1))))
      (λ e. rw (here (not (mark_at bytes p SG)) _ _ (ap not e))
      (each_mark (λ m. section_of m ≡ 2 → MarkAt bytes p m → ⊥) (λ z. omega arith) (λ z st. not_both ((mark_exact bytes p 83 71).1 st) e) (λ z. omega arith) (λ z. omega arith) (λ z. omega arith)))

  signal_scans : (tasks : ℕ) → Scans (signal_scan tasks)
  signal_scans tasks = record { few = λ b before p i. i.2; one = λ b v. refl; steps = signal_steps tasks }

  abbrev access_scan : ℕ → ℕ → Scan Access Accesses
  access_scan tasks signals = record {
    number = 3;
    step = λ b. access_at bytes tasks signals b.count b.last;
    put = put_access;
    count = λ b. b.count;
    most = most_accesses;
    Is = λ b before p. Reached 3 before p × Counted tasks signals b.count before × (b.count ≤ most_accesses) × (signals ≤ most_signals) × LastIs bytes before b.last;
  }

  access_steps : (tasks signals : ℕ) (b : Accesses) (before : List Record) (p : ℕ) → (access_scan tasks signals).Is b before p → Stepped (access_scan tasks signals) b p (access_at bytes tasks signals b.count b.last p)
  unfolding access_at access_in
  access_steps tasks signals b before p (R, c, l, few, is_last) =
      split (eqb (right_at bytes p) 0)
      (λ e. let z = eqb-true (right_at bytes p) 0 e in rw (here (eqb (right_at bytes p) 0) _ _ e)
      (each_mark (λ m. section_of m ≡ 3 → MarkAt bytes p m → ⊥) (λ z. omega arith) (λ z. omega arith) (λ y st. omega (arith, right_rd bytes p st)) (λ y st. omega (arith, right_wr bytes p st)) (λ z. omega arith)))
      (λ e. go (right_some bytes p (eqb-false (right_at bytes p) 0 e)))
    where
      one : (m : Mark) → section_of m ≡ 3 → record_size m ≡ 4 → MarkAt bytes p m → AccessAt bytes p → Stepped (access_scan tasks signals) b p (access_at bytes tasks signals b.count b.last p)
      one m s z st a =
          let r = access_obeys bytes before p tasks signals b.count b.last R.up_to c.0 c.1 c.2 few is_last m s st a in
          took (access_scan tasks signals) m b R.so_far (subst (λ k. Obeys bytes before p (λ x. x ≡ access_in bytes p) (p + k) read_rules (access_at bytes tasks signals b.count b.last p)) (sym z) r) (λ x i n.
          (one_more m s (omega arith) st n R, rw s (omega arith, omega arith, omega arith), fewer before p n most_accesses b.count (access_many bytes before p b.count c.2 a), few, inr (a, i, omega (arith, ap (λ y. y.signal) i, names_signal before p n a))))

      go : AccessAt bytes p → Stepped (access_scan tasks signals) b p (access_at bytes tasks signals b.count b.last p)
      go (inl st) = one rd refl refl st (inl st)
      go (inr st) = one wr refl refl st (inr st)

  access_scans : (tasks signals : ℕ) → Scans (access_scan tasks signals)
  access_scans tasks signals = record { few = λ b before p i. i.2; one = λ b x. refl; steps = access_steps tasks signals }

  -- each begins where the one before ends

  tasks_end : Ends task_scan (tasks_in bytes).read (tasks_in bytes).end
  unfolding tasks_in
  tasks_end =
      ends task_scan task_scans (suc most_tasks) no_tasks [] 0 refl
      (record { so_far = start; up_to = tt; past_by = each_mark _ (λ h. omega arith) (λ h. omega arith) (λ h. omega arith) (λ h. omega arith) (λ h. omega arith) }, (refl, refl, refl), omega arith)

  signals_end : (tasks : Tasks) (e : End) → Ends task_scan tasks e → Ends (signal_scan tasks.count) (signals_in bytes e).read (signals_in bytes e).end
  unfolding signals_in
  signals_end tasks (End.at p) (before, (R, c, l), n) = ends (signal_scan tasks.count) (signal_scans tasks.count) (suc most_signals) no_signals before p refl (next_section n R, c, omega arith)
  signals_end tasks (End.refused t) r = r

  -- before the first access there is none
  none_last : (before : List Record) (p : ℕ) → SoFar bytes before p → UpTo 2 before → LastIs bytes before no_accesses.last
  none_last [] p r o = refl
  none_last (x ∷ xs) p (then m n r st b) o = inl (none, refl)
    where
      none : AccessAt bytes x.place → ⊥
      none (inl a) = two_sections bytes x.place m rd st a (λ z. omega arith)
      none (inr a) = two_sections bytes x.place m wr st a (λ z. omega arith)

  accesses_end : (tasks : ℕ) (signals : Signals) (e : End) → Ends (signal_scan tasks) signals e
      → Ends (access_scan tasks signals.count) (accesses_in bytes tasks signals.count e).read (accesses_in bytes tasks signals.count e).end
  unfolding accesses_in
  accesses_end tasks signals (End.at p) (before, (R, c, l), n) =
      ends (access_scan tasks signals.count) (access_scans tasks signals.count) (suc most_accesses) no_accesses before p refl
      (next_section n R, c, omega arith, l, none_last before p R.so_far R.up_to)
  accesses_end tasks signals (End.refused t) r = r

  -- ---- EN

  not_last : (m : Mark) → m ≢ en → bit (eqb (section_of m) 4) ≡ 0
  not_last = each_mark (λ m. m ≢ en → bit (eqb (section_of m) 4) ≡ 0) (λ n. refl) (λ n. refl) (λ n. refl) (λ n. refl) (λ n. absurd (n refl))

  no_end : {before : List Record} {p : ℕ} → SoFar bytes before p → how_many en before ≡ 0
  no_end start = refl
  no_end (then m n r st b) = omega (arith, not_last m n, no_end r)

  -- all records are read, or the first broken rule is told
  abbrev Ended : End → Type 0
  Ended (End.at q) = AllRead bytes
  Ended (End.refused t) = RecordRefused bytes t

  module _ (before : List Record) (p : ℕ) (R : Reached 4 before p) where
    refused_here : {t : Told} → BreaksFirst bytes before p t → RecordRefused bytes t
    refused_here r = record { before = before; place = p; so_far = R.so_far; broken = r }

    abbrev EndObeys : List ReadRule → Step (Unit {0}) → Type 0
    EndObeys = Obeys bytes before p (λ x. Unit {0}) (p + 2)

    -- EN breaks no other rule than that nothing stands after it
    end_obeys : {s : Step (Unit {0})} → MarkAt bytes p en → not (holds_at bytes p 2) ≡ false → EndObeys (after_end_rule ∷ []) s → EndObeys read_rules s
    end_obeys st h r =
        in_order bytes before p en st R.up_to
        (pass bytes before p record_cut (λ d. not_both ((whole_exact bytes before p en st).1 d) h)
        (pass bytes before p too_many_rule (λ d. false≢true ((many_exact bytes before p en st 0 (no_end R.so_far)).1 d))
        (not_a_task bytes before p en st (λ z. omega arith) (not_an_access bytes before p en st (λ z. omega arith) r))))

    end_told : {t : Told} → EndObeys read_rules (Step.refused t) → RecordRefused bytes t
    end_told (tells r) = refused_here r

    end_read : MarkAt bytes p en → EndObeys read_rules (Step.taken tt (p + 2)) → AllRead bytes
    end_read st o = go o refl
      where
        go : {q : ℕ} {s : Step Unit} → EndObeys read_rules s → s ≡ Step.taken tt q → AllRead bytes
        go (takes i n) e = record { before = before; place = p; so_far = R.so_far; end = st; whole = n }
        go (tells r) e = absurd (cc e)

    end_ends : Ended (end_at bytes p)
    unfolding end_at holds_at
    end_ends =
        when_right Ended (not (holds_at bytes p 2)) _ _ (λ h. refused_here (this (leb-false (p + 2) (length bytes) (not_is (holds_at bytes p 2) h)), numbered p mark_cut)) (λ h.
        when_right Ended (not (mark_at bytes p EN)) _ _ (λ e. refused_here (later {x = mark_cut} (λ l. omega (arith, leb-true (p + 2) (length bytes) (not-false (holds_at bytes p 2) h))) (this {x = bad_mark_rule} (unknown e)), numbered p bad_mark_rule)) (λ e.
        let st = (mark_exact bytes p 69 78).0 (not-false (mark_at bytes p EN) e) in
        when_right Ended (ltb (p + 2) (length bytes)) _ _
        (λ l. end_told (end_obeys st h (tells (this (st, ltb-true (p + 2) (length bytes) l), numbered p after_end_rule))))
        (λ l. end_read st (end_obeys st h (takes tt ((λ d. omega (arith, d.1, ltb-false (p + 2) (length bytes) l)), tt))))))
      where
        unknown : not (mark_at bytes p EN) ≡ true → (m : Mark) → MarkAt bytes p m → InOrder before m → ⊥
        unknown e =
            each_mark (λ m. MarkAt bytes p m → InOrder before m → ⊥) (R.past_by tk (omega arith)) (R.past_by sg (omega arith)) (R.past_by rd (omega arith)) (R.past_by wr (omega arith))
            (λ st o. not_both ((mark_exact bytes p 69 78).1 st) (not_is (mark_at bytes p EN) e))

  table_ends : (tasks signals : ℕ) (b : Accesses) (e : End) → Ends (access_scan tasks signals) b e → Ended (ended bytes e)
  unfolding ended
  table_ends tasks signals b (End.at p) (before, (R, c, l, few, is_last), n) = end_ends before p (next_section n R)
  table_ends tasks signals b (End.refused t) r = r

  read_ends : Ended (end_of bytes)
  read_ends =
      let s = signals_end (tasks_in bytes).read (tasks_in bytes).end tasks_end in
      table_ends (tasks_in bytes).read.count (signals_of bytes).read.count (accesses_of bytes).read (accesses_of bytes).end (accesses_end (tasks_in bytes).read.count (signals_of bytes).read (signals_of bytes).end s)

  -- ---- the bytes alone determine what is told

  -- from a place on, after these records
  data Leads : List Record → ℕ → End → Type 0 where
    stops : {before : List Record} {p : ℕ} {t : Told} → BreaksFirst bytes before p t → Leads before p (End.refused t)
    finishes : {before : List Record} {p : ℕ} → MarkAt bytes p en → BreaksNone bytes before p → Leads before p (End.at 0)
    goes_on : {before : List Record} {p : ℕ} {e : End} (m : Mark) → m ≢ en → MarkAt bytes p m → BreaksNone bytes before p → Leads (record { mark = m; place = p } ∷ before) (p + record_size m) e
        → Leads before p e

  back : {before : List Record} {p : ℕ} {e : End} → SoFar bytes before p → Leads before p e → Leads [] 0 e
  back start l = l
  back (then m n r st b) l = back r (goes_on m n st b l)

  clean : (before : List Record) (p : ℕ) {t : Told} → BreaksFirst bytes before p t → BreaksNone bytes before p → ⊥
  clean before p (r, z) n = z ((done_exactly (numbered p) refl read_rules _ r).1 n)

  one_end : {before : List Record} {p : ℕ} {d e : End} → Leads before p d → Leads before p e → d ≡ e
  one_end {p} (stops {t = t} r) (stops {t = u} s) = ap End.refused (first_one _ (read_told p) _ read_rules t u r.0 s.0)
  one_end {before} {p} (stops r) (finishes st n) = absurd (clean before p r n)
  one_end {before} {p} (stops r) (goes_on m k st n l) = absurd (clean before p r n)
  one_end {before} {p} (finishes st n) (stops r) = absurd (clean before p r n)
  one_end (finishes st n) (finishes a b) = refl
  one_end {p} (finishes st n) (goes_on m k a b l) = absurd (k (one_mark bytes p m en a st))
  one_end {before} {p} (goes_on m k st n l) (stops r) = absurd (clean before p r n)
  one_end {p} (goes_on m k st n l) (finishes a b) = absurd (k (one_mark bytes p m en st a))
  one_end {before} {p} {e} (goes_on m k st n l) (goes_on i j a b o) = one_end l (subst (λ q. Leads (record { mark = q; place = p } ∷ before) (p + record_size q) e) (one_mark bytes p i m a st) o)

  leads_refused : {t : Told} → RecordRefused bytes t → Leads [] 0 (End.refused t)
  leads_refused r = back r.so_far (stops r.broken)

  leads_read : AllRead bytes → Leads [] 0 (End.at 0)
  leads_read r = back r.so_far (finishes r.end r.whole)

  -- ---- the statement

  not_both_ways : {t : Told} → RecordRefused bytes t → AllRead bytes → ⊥
  not_both_ways {t} r a = let e : End.refused t ≡ End.at 0 = one_end (leads_refused r) (leads_read a) in let z : ◌≡◌ {A = ℕ} 0 1 = cc in omega arith

  one_refusal : {t u : Told} → RecordRefused bytes t → RecordRefused bytes u → t ≡ u
  one_refusal {t} {u} r s = let e : End.refused t ≡ End.refused u = one_end (leads_refused r) (leads_refused s) in cc

  refused_number : {t : Told} → RecordRefused bytes t → (1 ≤ t.number) × (t.number ≤ after_end)
  refused_number r = told_by (λ t. t.number ≢ all_done → (1 ≤ t.number) × (t.number ≤ after_end)) (λ x z. one_to_six r.place x) (λ z. absurd (z refl)) r.broken.0 r.broken.1

  -- the rules on the whole table have other numbers
  table_bounds : (tab : Table) → 1 ≤ (table_says tab).number → (table_says tab).number ≤ after_end → ⊥
  table_bounds tab = told_by (λ t. 1 ≤ t.number → t.number ≤ after_end → ⊥) other (λ a. omega arith) (table_first tab)
    where
      other : (x : TableRule) → 1 ≤ (table_told x).number → (table_told x).number ≤ after_end → ⊥
      other no_task_rule a b = omega arith
      other long_hyper_rule a b = omega arith
      other many_instances_rule a b = omega arith
      other many_uses_rule a b = omega arith
      other (two_publish_rule s) a b = omega arith

  pub read_first : ReadFirst bytes (read_says bytes)
  unfolding read_says verdict
  read_first = go (end_of bytes) read_ends
    where
      go : (e : End) → Ended e → ReadFirst bytes (verdict (table_in bytes) e)
      go (End.at p) r = record {
        record_refused = λ t. (
          λ x. absurd (not_both_ways x r),
          λ x. let e = ap (λ u. u.number) x.0 in absurd (table_bounds (table_in bytes) (omega (arith, x.1)) (omega (arith, x.2))),
        );
        whole_refused = λ x. table_first (table_in bytes);
        either = inl r;
      }
      go (End.refused u) r = record {
        record_refused = λ t. (
          λ x. let b = refused_number x in (one_refusal r x, b.0, b.1),
          λ x. subst (RecordRefused bytes) x.0 r,
        );
        whole_refused = λ x. absurd (not_both_ways r x);
        either = inr (u, r);
      }
