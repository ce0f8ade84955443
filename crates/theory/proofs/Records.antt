-- Each kind of table record: its step takes a record that fits where its bytes stand, and what it takes fits and has those bytes. Assumes nothing.
use Prim.Native.Nat.{ℕ, zero, suc, ◌+◌, ◌*◌, ◌/◌, ◌%◌, ◌≤◌, ◌<◌}
use mathlib.Core.Path.{◌≡◌, refl, sym, ap, ◌∙◌}
use mathlib.Core.Bool.{true, false, not, ◌&&◌, cond}
use mathlib.Core.List.{List, [], ◌∷◌, ◌++◌}
use native.Mathlib.Nat.{add_assoc, add-zero, mod-eq_of_lt, div-add-mod', div-div-eq-div-mul, div-lt_iff_lt-mul, mul-add-div_right, mul-add-mod_self_right, div-eq_of_lt}
use native.Mathlib.Omega.{arith}
use lib.Dec.{leb, ltb, eqb}
use lib.ListN.{length, get_or, drop, length-drop, length-append}
use lib.Seq.{drop-drop, drop-cons, get_or-drop}
use borrow.Author.Tests.{eqb-true, eqb-false, leb-true, leb-false, le-leb, lt-leb, ne_eqb, ltb-true, not-false}
use Rattle.rules.specs.Words.{when}
use Rattle.rules.specs.Fields.{TK, SG, RD, WR, four, holds_at, byte_at, word_at, mark_at}
use Rattle.rules.specs.Table.{most_tasks, most_signals, most_accesses, windowed, longest}
use Rattle.rules.specs.Records.{Step, task_in, task_at, signal_at, right_at, access_in, key_of, access_at}
use Rattle.rules.specs.Reading.{put_task, put_signal, Marked, put_marked}
use Rattle.rules.specs.declared.Task.{Task}
use Rattle.rules.specs.declared.Access.{Access}
use Rattle.rules.specs.declared.Tasks.{Tasks}
use Rattle.rules.specs.declared.Signals.{Signals}
use Rattle.theory.specs.TableBytes.{AreBytes}
use Rattle.theory.proofs.Tests.{both, both3, when_right, past, here}
use Rattle.theory.proofs.Sections.{Kind, Right, Lawful}

-- ---- a number and its four bytes

word_of : (n : ℕ) → n < 4294967296 → ((n / 16777216 % 256 * 256 + n / 65536 % 256) * 256 + n / 256 % 256) * 256 + n % 256 ≡ n
word_of n h =
    let top = mod-eq_of_lt {n = n / 16777216} {m = 256} ((div-lt_iff_lt-mul {k = 16777216} {x = n} {y = 256} (omega arith)).1 h) in
    omega (arith, top, div-add-mod' n 256, div-add-mod' (n / 256) 256, div-add-mod' (n / 65536) 256, div-div-eq-div-mul n 256 256, div-div-eq-div-mul n 65536 256)

last_byte : (x d : ℕ) → d < 256 → ((x * 256 + d) / 256 ≡ x) × ((x * 256 + d) % 256 ≡ d)
last_byte x d h = (
  mul-add-div_right {m = 256} (omega arith) x d ∙ ap (λ z. x + z) (div-eq_of_lt {n = d} {m = 256} h) ∙ add-zero x,
  mul-add-mod_self_right x 256 d ∙ mod-eq_of_lt {n = d} {m = 256} h,
)

four_of : (a b c d : ℕ) → a < 256 → b < 256 → c < 256 → d < 256 → four (((a * 256 + b) * 256 + c) * 256 + d) ≡ a ∷ b ∷ c ∷ d ∷ []
four_of a b c d i j k l =
    let x = a * 256 + b in
    let y = x * 256 + c in
    let z = y * 256 + d in
    let q = sym (div-div-eq-div-mul z 256 256) ∙ ap (λ n. n / 256) (last_byte y d l).0 ∙ (last_byte x c k).0 in
    let r = sym (div-div-eq-div-mul z 65536 256) ∙ ap (λ n. n / 256) q ∙ (last_byte a b j).0 in
    rw (r, q, (last_byte y d l).0, (last_byte y d l).1, (last_byte x c k).1, (last_byte a b j).1, mod-eq_of_lt {n = a} {m = 256} i)

-- ---- the bytes of each kind

abbrev pub task_form : Task → List ℕ
task_form t = TK ++ four t.period ++ four t.start ++ four t.end

abbrev pub signal_form : ℕ → List ℕ
signal_form v = SG ++ four v

-- a right is RD or WR
pub each_right : (Q : ℕ → Type 0) → Q 1 → Q 2 → (r : ℕ) → 0 < r → r < 3 → Q r
each_right Q a b zero h l = absurd (omega arith)
each_right Q a b (suc zero) h l = a
each_right Q a b (suc (suc zero)) h l = b
each_right Q a b (suc (suc (suc r))) h l = absurd (omega arith)

abbrev mark_of : ℕ → List ℕ
mark_of r = cond (eqb r 1) RD WR

abbrev pub access_form : Access → List ℕ
access_form x = byte_at (mark_of x.right) 0 ∷ byte_at (mark_of x.right) 1 ∷ x.task ∷ x.signal ∷ []

-- an access that names one of so many tasks, and of so many signals
pub record Names (tasks signals : ℕ) (x : Access) : Type 0 where
  pub task : x.task < tasks
  pub signal : x.signal < signals
  pub some_right : 0 < x.right
  pub right : x.right < 3

-- it is not one too many, and comes after the last
pub record Follows (tasks signals : ℕ) (b : Marked) (x : Access) : Type 0 where
  pub names : Names tasks signals x
  pub few : b.accesses.count < most_accesses
  pub after : key_of b.accesses.last < key_of x

module _ (bytes : List ℕ) where
  -- ---- bytes that stand at a place

  -- so many of them, and what follows
  stand_length : (p : ℕ) (front : List ℕ) → drop p bytes ≡ front → 1 ≤ length front → p + length front ≤ length bytes
  stand_length p front e h = omega (arith, length-drop p bytes, ap length e)

  byte_at_lem : (p i : ℕ) (l : List ℕ) → drop p bytes ≡ l → byte_at bytes (p + i) ≡ get_or l i 0
  byte_at_lem p i l e = sym (get_or-drop p bytes i 0) ∙ ap (λ l. get_or l i 0) e

  further : (p m : ℕ) (l : List ℕ) → drop p bytes ≡ l → drop (p + m) bytes ≡ drop m l
  further p m l e = sym (drop-drop m p bytes) ∙ ap (drop m) e

  word_read : (p n : ℕ) (rest : List ℕ) → n < 4294967296 → drop p bytes ≡ four n ++ rest → word_at bytes p ≡ n
  word_read p n rest h e =
      rw (← add-zero p, byte_at_lem p 0 (four n ++ rest) e)
      (rw (add-zero p, byte_at_lem p 1 (four n ++ rest) e, byte_at_lem p 2 (four n ++ rest) e, byte_at_lem p 3 (four n ++ rest) e) (word_of n h))

  two_bytes : (p : ℕ) → p + 2 ≤ length bytes → drop p bytes ≡ byte_at bytes p ∷ byte_at bytes (p + 1) ∷ drop (p + 2) bytes
  two_bytes p h =
      let y : suc p ≡ p + 1 = omega arith in
      let z : suc (p + 1) ≡ p + 2 = omega arith in
      drop-cons bytes p 0 (omega arith)
      ∙ ap (λ l. byte_at bytes p ∷ l) (ap (λ n. drop n bytes) y ∙ drop-cons bytes (p + 1) 0 (omega arith) ∙ ap (λ n. byte_at bytes (p + 1) ∷ drop n bytes) z)

  word_written : (p q : ℕ) → AreBytes bytes → p + 4 ≡ q → q ≤ length bytes → drop p bytes ≡ four (word_at bytes p) ++ drop q bytes
  word_written p q o z h =
      two_bytes p (omega arith)
      ∙ ap (λ l. byte_at bytes p ∷ byte_at bytes (p + 1) ∷ l) (two_bytes (p + 2) (omega arith) ∙ rw (add_assoc p 2 1, add_assoc p 2 2, z))
      ∙ ap (λ l. l ++ drop q bytes) (sym (four_of (byte_at bytes p) (byte_at bytes (p + 1)) (byte_at bytes (p + 2)) (byte_at bytes (p + 3)) (o p) (o (p + 1)) (o (p + 2)) (o (p + 3))))

  -- ---- marks

  pub mark_is : (p a b c d : ℕ) (rest : List ℕ) → drop p bytes ≡ a ∷ b ∷ rest → mark_at bytes p (c ∷ d ∷ []) ≡ (eqb a c && eqb b d)
  unfolding mark_at holds_at
  mark_is p a b c d rest e =
      let first = ap (byte_at bytes) (sym (add-zero p)) ∙ byte_at_lem p 0 (a ∷ b ∷ rest) e in
      rw (le-leb (p + 2) (length bytes) (omega (arith, stand_length p (a ∷ b ∷ rest) e (omega arith))), first, byte_at_lem p 1 (a ∷ b ∷ rest) e)

  pub mark_written : (p a b : ℕ) → mark_at bytes p (a ∷ b ∷ []) ≡ true → drop p bytes ≡ a ∷ b ∷ drop (p + 2) bytes
  unfolding mark_at holds_at
  mark_written p a b e =
      let x = both (leb (p + 2) (length bytes)) (eqb (byte_at bytes p) a && eqb (byte_at bytes (p + 1)) b) e in
      let y = both (eqb (byte_at bytes p) a) (eqb (byte_at bytes (p + 1)) b) x.1 in
      two_bytes p (leb-true (p + 2) (length bytes) x.0) ∙ rw (eqb-true (byte_at bytes p) a y.0, eqb-true (byte_at bytes (p + 1)) b y.1)

  pub stands : (p n : ℕ) (l rest : List ℕ) → drop p bytes ≡ l ++ rest → 1 ≤ length l → length l ≡ n → holds_at bytes p n ≡ true
  unfolding holds_at
  stands p n l rest e h z = le-leb (p + n) (length bytes) (omega (arith, stand_length p (l ++ rest) e (omega (arith, length-append l rest)), length-append l rest))

  holds : (p n : ℕ) → not (holds_at bytes p n) ≡ false → p + n ≤ length bytes
  unfolding holds_at
  holds p n h = leb-true (p + n) (length bytes) (not-false (leb (p + n) (length bytes)) h)

  -- ---- TK

  abbrev pub task_kind : Kind Task Tasks
  task_kind = record {
    step = λ b. task_at bytes b.count;
    put = put_task;
    form = task_form;
    Fit = λ b t. (b.count < most_tasks) × (windowed t.period t.start t.end ≡ true);
    Bounded = λ t. Unit {0};
  }

  task_written : (p : ℕ) → AreBytes bytes → mark_at bytes p TK ≡ true → p + 14 ≤ length bytes → drop p bytes ≡ task_form (task_in bytes p) ++ drop (p + 14) bytes
  unfolding task_in
  task_written p o m h =
      mark_written p 84 75 m
      ∙ ap {B = List ℕ} (λ l. TK ++ l) (word_written (p + 2) (p + 6) o (omega arith) (omega arith)
      ∙ ap {B = List ℕ} (λ l. four (word_at bytes (p + 2)) ++ l) (word_written (p + 6) (p + 10) o (omega arith) (omega arith)
      ∙ ap {B = List ℕ} (λ l. four (word_at bytes (p + 6)) ++ l) (word_written (p + 10) (p + 14) o (omega arith) (omega arith))))

  task_right : (b : Tasks) (p : ℕ) → Right task_kind bytes b p (task_at bytes b.count p)
  unfolding task_at
  task_right b p =
      let Q = Right task_kind bytes b p in
      when_right Q (not (mark_at bytes p TK)) _ _ (λ e. tt) (λ m.
      when_right Q (not (holds_at bytes p 14)) _ _ (λ e z. omega arith) (λ h.
      when_right Q (leb most_tasks b.count) _ _ (λ e z. omega arith) (λ c.
      when_right Q (not (windowed (task_in bytes p).period (task_in bytes p).start (task_in bytes p).end)) _ _ (λ e z. omega arith) (λ w.
      ((leb-false most_tasks b.count c, not-false _ w), λ o. (tt, task_written p o (not-false (mark_at bytes p TK) m) (holds p 14 h)))))))

  task_read : (p : ℕ) (t : Task) (rest : List ℕ) → windowed t.period t.start t.end ≡ true → drop p bytes ≡ task_form t ++ rest → task_in bytes p ≡ t
  unfolding task_in windowed
  task_read p t rest f e =
      let l = task_form t ++ rest in
      let w = both3 (ltb t.start t.end) (leb t.end t.period) (leb t.period longest) f in
      let a = ltb-true t.start t.end w.0 in
      let b = leb-true t.end t.period w.1 in
      let c = leb-true t.period longest w.2 in
      rw (word_read (p + 2) t.period (drop 6 l) (omega arith) (further p 2 l e), word_read (p + 6) t.start (drop 10 l) (omega arith) (further p 6 l e), word_read (p + 10) t.end (drop 14 l) (omega arith) (further p 10 l e))

  task_takes : (b : Tasks) (p : ℕ) (t : Task) (rest : List ℕ) → task_kind.Fit b t → drop p bytes ≡ task_form t ++ rest → task_at bytes b.count p ≡ Step.taken t (p + 14)
  unfolding task_at
  task_takes b p t rest f e =
      rw (task_read p t rest f.1 e)
      (past (not (mark_at bytes p TK)) _ _ (ap not (mark_is p 84 75 84 75 (drop 2 (task_form t ++ rest)) e))
      ∙ past (not (holds_at bytes p 14)) _ _ (ap not (stands p 14 (task_form t) rest e (omega arith) refl))
      ∙ past (leb most_tasks b.count) _ _ (lt-leb most_tasks b.count f.0)
      ∙ past (not (windowed t.period t.start t.end)) _ _ (ap not f.1))

  pub task_lawful : Lawful task_kind bytes
  task_lawful = record { right = task_right; takes = λ b p t rest f w e. task_takes b p t rest f e }

  -- ---- SG

  abbrev pub signal_kind : Kind ℕ Signals
  signal_kind = record {
    step = λ b. signal_at bytes b.count;
    put = put_signal;
    form = signal_form;
    Fit = λ b v. b.count < most_signals;
    Bounded = λ v. v < 4294967296;
  }

  word_bounded : (p : ℕ) → AreBytes bytes → word_at bytes p < 4294967296
  word_bounded p o = omega (arith, o p, o (p + 1), o (p + 2), o (p + 3))

  signal_right : (b : Signals) (p : ℕ) → Right signal_kind bytes b p (signal_at bytes b.count p)
  unfolding signal_at
  signal_right b p =
      let Q = Right signal_kind bytes b p in
      when_right Q (not (mark_at bytes p SG)) _ _ (λ e. tt) (λ m.
      when_right Q (not (holds_at bytes p 6)) _ _ (λ e z. omega arith) (λ h.
      when_right Q (leb most_signals b.count) _ _ (λ e z. omega arith) (λ c. (
        leb-false most_signals b.count c,
        λ o. (
          word_bounded (p + 2) o,
          mark_written p 83 71 (not-false (mark_at bytes p SG) m)
              ∙ ap {B = List ℕ} (λ l. SG ++ l) (word_written (p + 2) (p + 6) o (omega arith) (holds p 6 h)),
        ),
      ))))

  signal_takes : (b : Signals) (p v : ℕ) (rest : List ℕ) → b.count < most_signals → v < 4294967296 → drop p bytes ≡ signal_form v ++ rest → signal_at bytes b.count p ≡ Step.taken v (p + 6)
  unfolding signal_at
  signal_takes b p v rest f w e =
      rw (word_read (p + 2) v rest w (further p 2 (signal_form v ++ rest) e))
      (past (not (mark_at bytes p SG)) _ _ (ap not (mark_is p 83 71 83 71 (four v ++ rest) e))
      ∙ past (not (holds_at bytes p 6)) _ _ (ap not (stands p 6 (signal_form v) rest e (omega arith) refl))
      ∙ past (leb most_signals b.count) _ _ (lt-leb most_signals b.count f))

  pub signal_lawful : Lawful signal_kind bytes
  signal_lawful = record { right = signal_right; takes = signal_takes }

  -- ---- RD, WR

  -- a right that stands at the place, by its mark
  abbrev Stands : ℕ → ℕ → Type 0
  Stands p r = (0 < r) × (r < 3) × (drop p bytes ≡ byte_at (mark_of r) 0 ∷ byte_at (mark_of r) 1 ∷ drop (p + 2) bytes)

  right_written : (p : ℕ) → (right_at bytes p ≡ 0 → ⊥) → Stands p (right_at bytes p)
  unfolding right_at
  right_written p =
      let Q : ℕ → Type 0 = λ r. (r ≡ 0 → ⊥) → Stands p r in
      when_right Q (mark_at bytes p RD) 1 (when (mark_at bytes p WR) 2 0) (λ m n. (omega arith, omega arith, mark_written p 82 68 m)) (λ m.
      when_right Q (mark_at bytes p WR) 2 0 (λ m n. (omega arith, omega arith, mark_written p 87 82 m)) (λ m n. absurd (n refl)))

  right_read : (p : ℕ) (rest : List ℕ) (r : ℕ) → 0 < r → r < 3 → drop p bytes ≡ byte_at (mark_of r) 0 ∷ byte_at (mark_of r) 1 ∷ rest → right_at bytes p ≡ r
  unfolding right_at
  right_read p rest =
      each_right (λ r. drop p bytes ≡ byte_at (mark_of r) 0 ∷ byte_at (mark_of r) 1 ∷ rest → right_at bytes p ≡ r)
      (λ e. here (mark_at bytes p RD) 1 _ (mark_is p 82 68 82 68 rest e))
      (λ e. past (mark_at bytes p RD) 1 _ (mark_is p 87 82 82 68 rest e) ∙ here (mark_at bytes p WR) 2 0 (mark_is p 87 82 87 82 rest e))

  module _ (tasks signals : ℕ) where
    abbrev pub access_kind : Kind Access Marked
    access_kind = record {
      step = λ b. access_at bytes tasks signals b.accesses.count b.accesses.last;
      put = put_marked;
      form = access_form;
      Fit = Follows tasks signals;
      Bounded = λ x. Unit {0};
    }

    access_right : (b : Marked) (p : ℕ) → Right access_kind bytes b p (access_at bytes tasks signals b.accesses.count b.accesses.last p)
    unfolding access_at access_in
    access_right b p =
        let Q = Right access_kind bytes b p in
        let x = access_in bytes p in
        when_right Q (eqb x.right 0) _ _ (λ e. tt) (λ r.
        when_right Q (not (holds_at bytes p 4)) _ _ (λ e z. omega arith) (λ h.
        when_right Q (leb most_accesses b.accesses.count) _ _ (λ e z. omega arith) (λ c.
        when_right Q (leb tasks x.task) _ _ (λ e z. omega arith) (λ t.
        when_right Q (leb signals x.signal) _ _ (λ e z. omega arith) (λ s.
        when_right Q (leb (key_of x) (key_of b.accesses.last)) _ _ (λ e z. omega arith) (λ k.
        let w = right_written p (eqb-false x.right 0 r) in (
          record {
            names = record { task = leb-false tasks x.task t; signal = leb-false signals x.signal s; some_right = w.0; right = w.1 };
            few = leb-false most_accesses b.accesses.count c;
            after = leb-false (key_of x) (key_of b.accesses.last) k;
          },
          λ o. (
            tt,
            w.2 ∙ ap (λ l. byte_at (mark_of x.right) 0 ∷ byte_at (mark_of x.right) 1 ∷ l)
                (two_bytes (p + 2) (omega (arith, holds p 4 h)) ∙ rw (add_assoc p 2 1, add_assoc p 2 2)),
          ),
        )))))))

    access_takes : (b : Marked) (p : ℕ) (x : Access) (rest : List ℕ) → Follows tasks signals b x → drop p bytes ≡ access_form x ++ rest → access_at bytes tasks signals b.accesses.count b.accesses.last p ≡ Step.taken x (p + 4)
    unfolding access_at access_in
    access_takes b p x rest f e =
        rw (right_read p (x.task ∷ x.signal ∷ rest) x.right f.names.some_right f.names.right e, byte_at_lem p 2 (access_form x ++ rest) e, byte_at_lem p 3 (access_form x ++ rest) e)
        (past (eqb x.right 0) _ _ (ne_eqb x.right 0 (λ z. omega (arith, f.names.some_right)))
        ∙ past (not (holds_at bytes p 4)) _ _ (ap not (stands p 4 (access_form x) rest e (omega arith) refl))
        ∙ past (leb most_accesses b.accesses.count) _ _ (lt-leb most_accesses b.accesses.count f.few)
        ∙ past (leb tasks x.task) _ _ (lt-leb tasks x.task f.names.task)
        ∙ past (leb signals x.signal) _ _ (lt-leb signals x.signal f.names.signal)
        ∙ past (leb (key_of x) (key_of b.accesses.last)) _ _ (lt-leb (key_of x) (key_of b.accesses.last) f.after))

    pub access_lawful : Lawful access_kind bytes
    access_lawful = record { right = access_right; takes = λ b p x rest f w e. access_takes b p x rest f e }
