-- The bytes of a table that keeps the rules are read back, so a table is accepted exactly where they hold. Assumes nothing.
use Prim.Native.Nat.{ℕ, suc, ◌+◌, ◌*◌, ◌≤◌, ◌<◌}
use mathlib.Core.Path.{◌≡◌, refl, sym, ap, subst, ◌∙◌}
use mathlib.Core.Bool.{Bool, true, false, not, ◌&&◌, cond}
use mathlib.Core.List.{List, [], ◌∷◌, ◌++◌, flat_map, append_assoc}
use native.Mathlib.Omega.{arith}
use lib.Dec.{ltb, eqb}
use lib.ListN.{length, drop, length-drop}
use borrow.Author.Tests.{lt-ltb, le-ltb, le-leb, eq-eqb}
use Rattle.rules.specs.Windows.{Table}
use Rattle.rules.specs.Table.{most_tasks, most_signals, most_accesses, longest, windowed, Fits}
use Rattle.rules.specs.Fields.{TK, SG, RD, WR, EN, four, holds_at, byte_at, mark_at}
use Rattle.rules.specs.Numbers.{tell}
use Rattle.rules.specs.Encode.{encode}
use Rattle.rules.specs.Records.{Step, End, task_at, signal_at, right_at, access_in, access_at, end_at, key_of}
use Rattle.rules.specs.Reading.{section, from, no_tasks, tasks_in, no_signals, signals_in, signals_of, no_marked, table_in, ended, verdict, read_says}
use Rattle.rules.specs.declared.Access.{Access}
use Rattle.theory.specs.TableBytes.{SameTable, Wide, ReadsBack, AcceptedExactly, OneTable}
use Rattle.theory.proofs.Tests.{and_is, past, here}
use Rattle.theory.proofs.Lists.{All, all_any, all_gather, Rising}
use Rattle.theory.proofs.Answered.{accepted_done}
use Rattle.theory.proofs.Sections.{after, puts, Fitting, puts_count, fitting_from, takes_section}
use Rattle.theory.proofs.Records.{task_form, signal_form, access_form, task_kind, task_lawful, signal_kind, signal_lawful, access_kind, access_lawful, mark_is, stands}
use Rattle.theory.proofs.Listed.{task_no, listed_length, task_list, default_list, access_list, encode_lists, accesses_length, Has, all_has, accesses_rise, same_lists}
use Rattle.theory.proofs.Same.{same_fits}
use Rattle.theory.proofs.TableRead.{FitsWindow, marked_in, kind, same_end, tasks_are, defaults_are, accesses_are, written_back}

-- these bytes begin with another mark
abbrev Other : ℕ → ℕ → List ℕ → Type 0
Other c d l = (a : ℕ) × (b : ℕ) × (rest : List ℕ) × (l ≡ a ∷ b ∷ rest) × ((eqb a c && eqb b d) ≡ false)

other_written : {A : Type 0} (form : A → List ℕ) (c d : ℕ) (xs : List A) (rest : List ℕ) → ((x : A) (l : List ℕ) → Other c d (form x ++ l)) → Other c d rest → Other c d (flat_map form xs ++ rest)
unfolding flat_map
other_written form c d [] rest f o = o
other_written form c d (x ∷ xs) rest f o = let r = f x (flat_map form xs ++ rest) in (r.0, r.1, r.2, append_assoc (form x) (flat_map form xs) rest ∙ r.3, r.4)

no_access : (c d : ℕ) → (eqb 82 c && eqb 68 d) ≡ false → (eqb 87 c && eqb 82 d) ≡ false → (r : Bool) → (eqb (byte_at (cond r RD WR) 0) c && eqb (byte_at (cond r RD WR) 1) d) ≡ false
no_access c d rd wr true = rd
no_access c d rd wr false = wr

module _ (bytes : List ℕ) where
  other_mark : (p c d : ℕ) (rest : List ℕ) → Other c d rest → drop p bytes ≡ rest → mark_at bytes p (c ∷ d ∷ []) ≡ false
  other_mark p c d rest o e = mark_is bytes p o.0 o.1 c d o.2 (e ∙ o.3) ∙ o.4

  no_more_tasks : (count p : ℕ) (rest : List ℕ) → Other 84 75 rest → drop p bytes ≡ rest → task_at bytes count p ≡ Step.other
  unfolding task_at
  no_more_tasks count p rest o e = here (not (mark_at bytes p TK)) _ _ (ap not (other_mark p 84 75 rest o e))

  no_more_signals : (count p : ℕ) (rest : List ℕ) → Other 83 71 rest → drop p bytes ≡ rest → signal_at bytes count p ≡ Step.other
  unfolding signal_at
  no_more_signals count p rest o e = here (not (mark_at bytes p SG)) _ _ (ap not (other_mark p 83 71 rest o e))

  no_more_accesses : (tasks signals count : ℕ) (last : Access) (p : ℕ) → drop p bytes ≡ EN → access_at bytes tasks signals count last p ≡ Step.other
  unfolding access_at access_in right_at
  no_more_accesses tasks signals count last p e =
      here (eqb (right_at bytes p) 0) _ _ (eq-eqb (right_at bytes p) 0 (past (mark_at bytes p RD) 1 _ (mark_is bytes p 69 78 82 68 [] e) ∙ past (mark_at bytes p WR) 2 0 (mark_is bytes p 69 78 87 82 [] e)))

  end_stands : (p : ℕ) → drop p bytes ≡ EN → end_at bytes p ≡ End.at (p + 2)
  unfolding end_at
  end_stands p e =
      past (not (holds_at bytes p 2)) _ _ (ap not (stands bytes p 2 EN [] e (omega arith) refl))
      ∙ past (not (mark_at bytes p EN)) _ _ (ap not (mark_is bytes p 69 78 69 78 [] e))
      ∙ past (ltb (p + 2) (length bytes)) _ _ (le-ltb (p + 2) (length bytes) (omega (arith, length-drop p bytes, ap length e)))

module _ (tab : Table) (F : Fits tab) (W : Wide tab) where
  abbrev bytes : List ℕ
  bytes = encode tab

  -- ---- its records are fit to follow each other

  window_fits : (k : ℕ) → k < tab.tasks → FitsWindow (task_no tab k)
  unfolding windowed
  window_fits k h = and_is (and_is (lt-ltb (tab.start k) (tab.end k) (F.window k h)) (le-leb (tab.end k) (tab.period k) (F.within k h))) (le-leb (tab.period k) longest (F.short k h))

  tasks_fit : Fitting (task_kind bytes) no_tasks (task_list tab)
  tasks_fit =
      fitting_from (task_kind bytes) (λ b ts. (b.count + length ts ≤ most_tasks) × All FitsWindow ts) (λ b t ts q. ((omega arith, q.1.0), (omega arith, q.1.1))) no_tasks (task_list tab)
      (omega (arith, listed_length (task_no tab) tab.tasks, F.few_tasks), all_gather FitsWindow (λ k. task_no tab k ∷ []) tab.tasks (λ k h. (window_fits k h, tt)))

  signals_fit : Fitting (signal_kind bytes) no_signals (default_list tab)
  signals_fit =
      fitting_from (signal_kind bytes) (λ b ds. b.count + length ds ≤ most_signals) (λ b v ds q. (omega arith, omega arith)) no_signals (default_list tab)
      (omega (arith, listed_length tab.default tab.signals, F.few_signals))

  accesses_fit : (tasks signals : ℕ) → tasks ≡ tab.tasks → signals ≡ tab.signals → Fitting (access_kind bytes tasks signals) no_marked (access_list tab)
  accesses_fit tasks signals n m =
      rw (n, m)
      (fitting_from (access_kind bytes tab.tasks tab.signals)
      (λ b xs. (b.accesses.count + length xs ≤ most_accesses) × Rising key_of (suc (key_of b.accesses.last)) xs (1 + tab.tasks * 1024) × All (Has tab) xs)
      (λ b x xs q. (record { names = q.2.0.names; few = omega (arith, q.0); after = q.1.0 }, (omega (arith, q.0), q.1.1, q.2.1)))
      no_marked (access_list tab)
      (omega (arith, accesses_length tab, F.few_accesses), accesses_rise tab (omega (arith, F.few_signals)), all_has tab))

  -- ---- what stands after each section

  abbrev access_rest : List ℕ
  access_rest = flat_map access_form (access_list tab) ++ EN

  abbrev signal_rest : List ℕ
  signal_rest = flat_map signal_form (default_list tab) ++ access_rest

  tasks_stand : bytes ≡ flat_map task_form (task_list tab) ++ signal_rest
  tasks_stand = encode_lists tab ∙ append_assoc (flat_map task_form (task_list tab) ++ flat_map signal_form (default_list tab)) (flat_map access_form (access_list tab)) EN ∙ append_assoc (flat_map task_form (task_list tab)) (flat_map signal_form (default_list tab)) access_rest

  access_rest_other : (c d : ℕ) → (eqb 82 c && eqb 68 d) ≡ false → (eqb 87 c && eqb 82 d) ≡ false → (eqb 69 c && eqb 78 d) ≡ false → Other c d access_rest
  access_rest_other c d rd wr en = other_written access_form c d (access_list tab) EN (λ x l. (_, _, _, refl, no_access c d rd wr (eqb x.right 1))) (69, 78, [], refl, en)

  -- ---- the sections of its bytes

  p₁ : ℕ
  p₁ = 0 + length (flat_map task_form (task_list tab))

  p₂ : ℕ
  p₂ = p₁ + length (flat_map signal_form (default_list tab))

  p₃ : ℕ
  p₃ = p₂ + length (flat_map access_form (access_list tab))

  tasks_read : tasks_in bytes ≡ record { read = puts (task_kind bytes) no_tasks (task_list tab); end = End.at p₁ }
  unfolding tasks_in p₁
  tasks_read =
      takes_section (task_kind bytes) bytes (task_lawful bytes) most_tasks (task_list tab) no_tasks 0 signal_rest (omega (arith, listed_length (task_no tab) tab.tasks, F.few_tasks)) tasks_fit (all_any _ (λ t. tt) (task_list tab)) tasks_stand
      (λ c q e. no_more_tasks bytes c.count q signal_rest (other_written signal_form 84 75 (default_list tab) access_rest (λ v l. (83, 71, four v ++ l, refl, refl)) (access_rest_other 84 75 refl refl refl)) e)

  signals_stand : drop p₁ bytes ≡ signal_rest
  unfolding p₁
  signals_stand = after bytes 0 (flat_map task_form (task_list tab)) signal_rest tasks_stand

  signals_read : signals_of bytes ≡ record { read = puts (signal_kind bytes) no_signals (default_list tab); end = End.at p₂ }
  unfolding signals_in p₂
  signals_read =
      rw (ap (λ s. s.end) tasks_read)
      (takes_section (signal_kind bytes) bytes (signal_lawful bytes) most_signals (default_list tab) no_signals p₁ access_rest (omega (arith, listed_length tab.default tab.signals, F.few_signals)) signals_fit
      (all_gather (λ v. v < 4294967296) (λ s. tab.default s ∷ []) tab.signals (λ s h. (W s h, tt))) signals_stand
      (λ c q e. no_more_signals bytes c.count q access_rest (access_rest_other 83 71 refl refl refl) e))

  same_tasks : (tasks_in bytes).read.count ≡ tab.tasks
  same_tasks = ap (λ s. s.read.count) tasks_read ∙ omega (arith, puts_count (task_kind bytes) (λ b. b.count) (λ b t. refl) no_tasks (task_list tab), listed_length (task_no tab) tab.tasks)

  same_signals : (signals_of bytes).read.count ≡ tab.signals
  same_signals = ap (λ s. s.read.count) signals_read ∙ omega (arith, puts_count (signal_kind bytes) (λ b. b.count) (λ b v. refl) no_signals (default_list tab), listed_length tab.default tab.signals)

  accesses_stand : drop p₂ bytes ≡ access_rest
  unfolding p₂
  accesses_stand = after bytes p₁ (flat_map signal_form (default_list tab)) access_rest signals_stand

  access_fit : Fitting (kind bytes) no_marked (access_list tab)
  access_fit = accesses_fit (tasks_in bytes).read.count (signals_of bytes).read.count same_tasks same_signals

  accesses_read : marked_in bytes ≡ record { read = puts (kind bytes) no_marked (access_list tab); end = End.at p₃ }
  unfolding p₃
  accesses_read =
      ap (from (section (kind bytes).step (kind bytes).put (suc most_accesses) no_marked) no_marked) (ap (λ s. s.end) signals_read)
      ∙ takes_section (kind bytes) bytes (access_lawful bytes (tasks_in bytes).read.count (signals_of bytes).read.count) most_accesses (access_list tab) no_marked p₂ EN (omega (arith, accesses_length tab, F.few_accesses))
      access_fit (all_any _ (λ x. tt) (access_list tab)) accesses_stand
      (λ c q e. no_more_accesses bytes (tasks_in bytes).read.count (signals_of bytes).read.count c.accesses.count c.accesses.last q e)

  -- ---- so it is read back

  tasks_back : task_list (table_in bytes) ≡ task_list tab
  tasks_back = tasks_are bytes (task_list tab) tasks_fit (ap (λ s. s.read) tasks_read)

  defaults_back : default_list (table_in bytes) ≡ default_list tab
  defaults_back = defaults_are bytes (default_list tab) signals_fit (ap (λ s. s.read) signals_read)

  accesses_back : access_list (table_in bytes) ≡ access_list tab
  accesses_back = accesses_are bytes (access_list tab) access_fit (ap (λ s. s.read) accesses_read)

  same_table : SameTable (table_in bytes) tab
  same_table = same_lists (table_in bytes) tab tasks_back defaults_back accesses_back

  said : read_says bytes ≡ tell 0 0
  unfolding read_says ended verdict p₃
  said =
      rw (same_end bytes (signals_of bytes).end (tasks_in bytes).read.count (signals_of bytes).read.count ∙ ap (λ s. s.end) accesses_read, end_stands bytes p₃ (after bytes p₂ (flat_map access_form (access_list tab)) EN accesses_stand))
      (accepted_done (table_in bytes) (same_fits (table_in bytes) tab same_table F))

-- ---- the statements

pub reads_back : (tab : Table) → ReadsBack tab
reads_back tab F W = (said tab F W, same_table tab F W)

pub accepted_exactly : (bytes : List ℕ) → AcceptedExactly bytes
accepted_exactly bytes o = (
  λ e. let r = written_back bytes o e in (table_in bytes, r.1, r.2, r.0),
  λ x. subst (λ b. (read_says b).number ≡ 0) (sym x.3) (ap (λ t. t.number) (said x.0 x.1 x.2)),
)

pub one_table : (a b : Table) → OneTable a b
one_table a b F U G W e =
    same_lists a b
    (sym (tasks_back a F U) ∙ ap (λ l. task_list (table_in l)) e ∙ tasks_back b G W)
    (sym (defaults_back a F U) ∙ ap (λ l. default_list (table_in l)) e ∙ defaults_back b G W)
    (sym (accesses_back a F U) ∙ ap (λ l. access_list (table_in l)) e ∙ accesses_back b G W)
