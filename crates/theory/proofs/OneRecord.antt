-- One record of a table: each test of a step is exact for its rule, so a step gives the record where it breaks none, and else tells the first. Assumes nothing.
use Prim.Native.Nat.{ℕ, ◌+◌, ◌≤◌, ◌<◌}
use mathlib.Core.Path.{◌≡◌, refl, sym, ap, ap₂, ◌∙◌}
use mathlib.Core.Bool.{Bool, true, false, not, ◌&&◌, cond, false≢true}
use mathlib.Core.List.{List, [], ◌∷◌, ◌++◌}
use mathlib.Core.Logic.{◌↔◌, ◌≢◌, ◌⊎◌, inl, inr}
use native.Mathlib.Omega.{arith}
use lib.Dec.{leb, ltb, eqb}
use lib.ListN.{length, take, drop, take-append-drop, length-drop}
use borrow.Author.Tests.{eq-eqb, leb-true, leb-false, le-leb, lt-leb, ltb-true, ltb-false, ne_eqb}
use Rattle.rules.specs.Words.{bit, when}
use Rattle.rules.specs.Table.{most_signals, most_accesses, longest, windowed}
use Rattle.rules.specs.Fields.{TK, SG, RD, WR, holds_at, byte_at, word_at, mark_at}
use Rattle.rules.specs.Numbers.{Told, all_done, after_end}
use Rattle.rules.specs.Records.{Step, task_in, task_at, signal_at, right_at, access_in, access_at, key_of}
use Rattle.rules.specs.declared.Access.{Access}
use Rattle.theory.specs.First.{FirstBroken, this, later, NoneBroken}
use Rattle.theory.specs.FirstRecord.{Mark, tk, sg, rd, wr, en, letters, record_size, section_of, most_of, Record, how_many, InOrder, MarkAt, AccessAt, Rises, by_task, by_signal, rd_before_wr, NotAfter, period, end, task, signal, ReadRule, mark_cut, bad_mark_rule, record_cut, too_many_rule, bad_field_rule, not_after_rule, after_end_rule, read_rules, BrokenRead, read_told}
use Rattle.theory.proofs.Tests.{split, agree, both, both3, not_is, and_is, past, here, when_right}
use Rattle.theory.proofs.Records.{mark_is, mark_written}
use Rattle.theory.proofs.First.{not_less, not_at_most, either_fails, not_counted}

-- ---- marks

pub each_mark : (Q : Mark → Type 0) → Q tk → Q sg → Q rd → Q wr → Q en → (m : Mark) → Q m
each_mark Q a b c d e tk = a
each_mark Q a b c d e sg = b
each_mark Q a b c d e rd = c
each_mark Q a b c d e wr = d
each_mark Q a b c d e en = e

-- the mark that has this first byte
abbrev named : ℕ → Mark
named b = cond (eqb b 84) tk (cond (eqb b 83) sg (cond (eqb b 82) rd (cond (eqb b 87) wr en)))

named_back : (m : Mark) → named (byte_at (letters m) 0) ≡ m
named_back = each_mark (λ m. named (byte_at (letters m) 0) ≡ m) refl refl refl refl refl

module _ (bytes : List ℕ) where
  pub one_mark : (p : ℕ) (m n : Mark) → MarkAt bytes p m → MarkAt bytes p n → m ≡ n
  one_mark p m n a b = sym (named_back m) ∙ ap (λ l. named (byte_at l 0)) (sym a ∙ b) ∙ named_back n

  -- marks of two sections do not stand at one place
  pub two_sections : (p : ℕ) (m n : Mark) → MarkAt bytes p m → MarkAt bytes p n → section_of m ≢ section_of n → ⊥
  two_sections p m n a b d = d (ap section_of (one_mark p m n a b))

  stands_there : (p a b : ℕ) → take 2 (drop p bytes) ≡ a ∷ b ∷ [] → drop p bytes ≡ a ∷ b ∷ drop 2 (drop p bytes)
  stands_there p a b e = sym (take-append-drop 2 (drop p bytes)) ∙ ap {B = List ℕ} (λ l. l ++ drop 2 (drop p bytes)) e

  pub mark_exact : (p a b : ℕ) → (mark_at bytes p (a ∷ b ∷ []) ≡ true) ↔ (take 2 (drop p bytes) ≡ a ∷ b ∷ [])
  mark_exact p a b = (
    λ e. ap (take 2) (mark_written bytes p a b e),
    λ e. mark_is bytes p a b a b (drop 2 (drop p bytes)) (stands_there p a b e) ∙ and_is (eq-eqb a a refl) (eq-eqb b b refl),
  )

  two_there : (p a b : ℕ) → take 2 (drop p bytes) ≡ a ∷ b ∷ [] → p + 2 ≤ length bytes
  two_there p a b e = omega (arith, length-drop p bytes, ap length (stands_there p a b e))

  mark_room : (p : ℕ) (m : Mark) → MarkAt bytes p m → p + 2 ≤ length bytes
  mark_room p = each_mark (λ m. MarkAt bytes p m → p + 2 ≤ length bytes) (two_there p 84 75) (two_there p 83 71) (two_there p 82 68) (two_there p 87 82) (two_there p 69 78)

  -- ---- accesses by their keys

  pub right_rd : (p : ℕ) → MarkAt bytes p rd → right_at bytes p ≡ 1
  unfolding right_at
  right_rd p st = here (mark_at bytes p RD) 1 _ ((mark_exact p 82 68).1 st)

  pub right_wr : (p : ℕ) → MarkAt bytes p wr → right_at bytes p ≡ 2
  unfolding right_at
  right_wr p st = past (mark_at bytes p RD) 1 _ (mark_is bytes p 87 82 82 68 _ (stands_there p 87 82 st)) ∙ here (mark_at bytes p WR) 2 0 ((mark_exact p 87 82).1 st)

  -- 0 where no access stands
  pub right_some : (p : ℕ) → right_at bytes p ≢ 0 → AccessAt bytes p
  unfolding right_at
  right_some p =
      let Q : ℕ → Type 0 = λ r. r ≢ 0 → AccessAt bytes p in
      when_right Q (mark_at bytes p RD) 1 _ (λ e n. inl ((mark_exact p 82 68).0 e)) (λ e.
      when_right Q (mark_at bytes p WR) 2 0 (λ e n. inr ((mark_exact p 87 82).0 e)) (λ e n. absurd (n refl)))

  right_known : (p : ℕ) → AccessAt bytes p → (1 ≤ right_at bytes p) × (right_at bytes p ≤ 2)
  right_known p (inl st) = (omega (arith, right_rd p st), omega (arith, right_rd p st))
  right_known p (inr st) = (omega (arith, right_wr p st), omega (arith, right_wr p st))

  abbrev key : ℕ → ℕ
  key p = key_of (access_in bytes p)

  rises_key : (q p : ℕ) → AccessAt bytes q → AccessAt bytes p → byte_at bytes (q + 3) < 256 → byte_at bytes (p + 3) < 256 → Rises bytes q p ↔ (key q < key p)
  unfolding access_in
  rises_key q p a b l h = (there, back)
    where
      there : Rises bytes q p → key q < key p
      there (by_task t) = omega (arith, right_known q a, right_known p b)
      there (by_signal e s) = omega (arith, right_known q a, right_known p b)
      there (rd_before_wr e f c d) = omega (arith, right_rd q c, right_wr p d)

      last : AccessAt bytes q → AccessAt bytes p → byte_at bytes (q + 2) ≡ byte_at bytes (p + 2) → byte_at bytes (q + 3) ≡ byte_at bytes (p + 3) → right_at bytes q < right_at bytes p → Rises bytes q p
      last (inl c) (inl d) e f k = absurd (omega (arith, right_rd q c, right_rd p d))
      last (inl c) (inr d) e f k = rd_before_wr e f c d
      last (inr c) d e f k = absurd (omega (arith, right_wr q c, right_known p d))

      back : key q < key p → Rises bytes q p
      back k =
          split (ltb (byte_at bytes (q + 2)) (byte_at bytes (p + 2))) (λ e. by_task (omega (arith, ltb-true (byte_at bytes (q + 2)) (byte_at bytes (p + 2)) e))) (λ e.
          let t = ltb-false (byte_at bytes (q + 2)) (byte_at bytes (p + 2)) e in
          let u : byte_at bytes (q + 2) ≡ byte_at bytes (p + 2) = omega (arith, right_known q a, right_known p b) in
          split (ltb (byte_at bytes (q + 3)) (byte_at bytes (p + 3))) (λ f. by_signal u (ltb-true _ _ f)) (λ f.
          let s = ltb-false (byte_at bytes (q + 3)) (byte_at bytes (p + 3)) f in
          let v : byte_at bytes (q + 3) ≡ byte_at bytes (p + 3) = omega (arith, right_known q a, right_known p b) in
          last a b u v (omega arith)))

  -- the last access before a record, or one that all follow
  abbrev pub LastIs : List Record → Access → Type 0
  LastIs [] last = key_of last ≡ 0
  LastIs (x ∷ xs) last = ((AccessAt bytes x.place → ⊥) × (key_of last ≡ 0)) ⊎ (AccessAt bytes x.place × (last ≡ access_in bytes x.place) × (last.signal < 256))

  after_exact : (before : List Record) (last : Access) (p : ℕ) → LastIs before last → AccessAt bytes p → byte_at bytes (p + 3) < 256
      → (leb (key p) (key_of last) ≡ true) ↔ (AccessAt bytes p × NotAfter bytes before p)
  unfolding access_in
  after_exact [] last p k b h = ((λ e. absurd (omega (arith, leb-true (key p) (key_of last) e, right_known p b))), λ d. absurd d.1)
  after_exact (x ∷ xs) last p (inl (n, k)) b h = ((λ e. absurd (omega (arith, leb-true (key p) (key_of last) e, right_known p b))), λ d. absurd (n d.1.0))
  after_exact (x ∷ xs) last p (inr (a, e, l)) b h = (
    λ t. (b, (a, λ r. omega (arith, leb-true (key p) (key_of last) t, ap key_of e, rises.0 r))),
    λ d. split (leb (key p) (key_of last)) (λ t. t) (λ t. absurd (d.1.1 (rises.1 (omega (arith, leb-false (key p) (key_of last) t, ap key_of e))))),
  )
    where
      rises : Rises bytes x.place p ↔ (key x.place < key p)
      rises = rises_key x.place p a b (omega (arith, l, ap (λ y. y.signal) e)) h

-- ---- records of one section

-- the latest of these records is of section s or of one before it
abbrev pub UpTo : ℕ → List Record → Type 0
UpTo s [] = Unit {0}
UpTo s (x ∷ xs) = section_of x.mark ≤ s

ordered : (m : Mark) (before : List Record) → UpTo (section_of m) before → InOrder before m
ordered m [] o = tt
ordered m (x ∷ xs) o = o

same_many : (m n : Mark) → section_of m ≡ section_of n → (before : List Record) → how_many m before ≡ how_many n before
same_many m n e [] = refl
same_many m n e (x ∷ xs) = ap₂ (λ a b. bit (eqb (section_of x.mark) a) + b) e (same_many m n e xs)

-- ---- a window that fits: its period is in range, and its end after the start and in the period

two_tests : (P a b : ℕ) → windowed P a b ≡ ((leb 1 P && leb P longest) && (ltb a b && leb b P))
unfolding windowed
two_tests P a b =
    agree
    (λ e. let w = both3 (ltb a b) (leb b P) (leb P longest) e in and_is (and_is (le-leb 1 P (omega (arith, ltb-true a b w.0, leb-true b P w.1))) w.2) (and_is w.0 w.1))
    (λ e.
    let w = both (leb 1 P && leb P longest) (ltb a b && leb b P) e in
    and_is w.1 (both (leb 1 P) (leb P longest) w.0).1)

when_either : {A : Type 0} (a b : Bool) (x y : A) → when (not (a && b)) x y ≡ when (not a) x (when (not b) x y)
unfolding when
when_either true b x y = refl
when_either false b x y = refl

-- ---- one record

pub one_to_six : (p : ℕ) (x : ReadRule) → (1 ≤ (read_told p x).number) × ((read_told p x).number ≤ after_end)
one_to_six p mark_cut = (omega arith, omega arith)
one_to_six p bad_mark_rule = (omega arith, omega arith)
one_to_six p record_cut = (omega arith, omega arith)
one_to_six p too_many_rule = (omega arith, omega arith)
one_to_six p (bad_field_rule f) = (omega arith, omega arith)
one_to_six p not_after_rule = (omega arith, omega arith)
one_to_six p after_end_rule = (omega arith, omega arith)

pub numbered : (p : ℕ) (x : ReadRule) → (read_told p x).number ≢ all_done
numbered p x e = omega (arith, one_to_six p x)

module _ (bytes : List ℕ) (before : List Record) (p : ℕ) where
  -- what a step gives is right by these rules: a record, up to place q, where none is broken, and else the first broken one
  pub data Obeys {A : Type 0} (Is : A → Type 0) (q : ℕ) (xs : List ReadRule) : Step A → Type 0 where
    takes : {x : A} → Is x → NoneBroken (BrokenRead bytes before p) xs → Obeys Is q xs (Step.taken x q)
    tells : {t : Told} → FirstBroken (BrokenRead bytes before p) (read_told p) xs t × (t.number ≢ all_done) → Obeys Is q xs (Step.refused t)

  module _ {A : Type 0} {Is : A → Type 0} {q : ℕ} where
    -- a rule that is not broken
    pub pass : (x : ReadRule) {xs : List ReadRule} {s : Step A} → (BrokenRead bytes before p x → ⊥) → Obeys Is q xs s → Obeys Is q (x ∷ xs) s
    pass x n (takes i r) = takes i (n, r)
    pass x n (tells (r, z)) = tells (later n r, z)

    -- one test, exact for its rule; those after it are asked where it fails
    test : (b : Bool) (s : Step A) {x : ReadRule} {xs : List ReadRule} → (b ≡ true) ↔ BrokenRead bytes before p x → (b ≡ false → Obeys Is q xs s) → Obeys Is q (x ∷ xs) (when b (Step.refused (read_told p x)) s)
    unfolding when
    test true s {x} e r = tells (this (e.0 refl), numbered p x)
    test false s {x} e r = pass x (λ h. false≢true (e.1 h)) (r refl)

    -- ---- rules that the mark decides

    module _ (m : Mark) (st : MarkAt bytes p m) where
      -- two bytes stand there, and the mark is in order
      pub in_order : {xs : List ReadRule} {s : Step A} → UpTo (section_of m) before → Obeys Is q xs s → Obeys Is q (mark_cut ∷ bad_mark_rule ∷ xs) s
      in_order o r = pass mark_cut (λ h. omega (arith, mark_room bytes p m st)) (pass bad_mark_rule (λ n. n m st (ordered m before o)) r)

      -- rules on fields and order that another mark has

      pub not_a_task : {xs : List ReadRule} {s : Step A} → section_of m ≢ 1 → Obeys Is q xs s → Obeys Is q (bad_field_rule period ∷ bad_field_rule end ∷ xs) s
      not_a_task d r = pass (bad_field_rule period) (λ h. two_sections bytes p m tk st h.0 d) (pass (bad_field_rule end) (λ h. two_sections bytes p m tk st h.0 d) r)

      pub not_an_access : {xs : List ReadRule} {s : Step A} → section_of m ≢ 3 → Obeys Is q xs s → Obeys Is q (bad_field_rule task ∷ bad_field_rule signal ∷ not_after_rule ∷ xs) s
      not_an_access d r = pass (bad_field_rule task) (λ h. none h.0) (pass (bad_field_rule signal) (λ h. none h.0) (pass not_after_rule (λ h. none h.0) r))
        where
          none : AccessAt bytes p → ⊥
          none (inl a) = two_sections bytes p m rd st a d
          none (inr a) = two_sections bytes p m wr st a d

      not_the_end : {xs : List ReadRule} {s : Step A} → section_of m ≢ 4 → Obeys Is q xs s → Obeys Is q (after_end_rule ∷ xs) s
      not_the_end d r = pass after_end_rule (λ h. two_sections bytes p m en st h.0 d) r

  module _ (m : Mark) (st : MarkAt bytes p m) where
    pub whole_exact : (not (holds_at bytes p (record_size m)) ≡ true) ↔ BrokenRead bytes before p record_cut
    unfolding holds_at
    whole_exact = (
      λ e. (m, st, leb-false (p + record_size m) (length bytes) (not_is (leb (p + record_size m) (length bytes)) e)),
      λ d. let z = ap record_size (one_mark bytes p m d.0 st d.1) in ap not (lt-leb (p + record_size m) (length bytes) (omega (arith, d.2))),
    )

    pub many_exact : (count : ℕ) → how_many m before ≡ count → (leb (most_of m) count ≡ true) ↔ BrokenRead bytes before p too_many_rule
    many_exact count c = (
      λ e. (m, st, omega (arith, leb-true (most_of m) count e)),
      λ d. let z = one_mark bytes p m d.0 st d.1 in le-leb (most_of m) count (omega (arith, d.2, ap most_of z, ap (λ n. how_many n before) z)),
    )

  -- ---- TK

  abbrev word : ℕ → ℕ
  word o = word_at bytes (p + o)

  -- a window that does not fit breaks one of two rules
  window_obeys : {A : Type 0} {Is : A → Type 0} {q : ℕ} (s : Step A) {xs : List ReadRule} → MarkAt bytes p tk → Obeys Is q xs s
      → Obeys Is q (bad_field_rule period ∷ bad_field_rule end ∷ xs) (when (not (windowed (word 2) (word 6) (word 10))) (Step.refused (read_told p (bad_field_rule end))) s)
  window_obeys s st r =
      rw (two_tests (word 2) (word 6) (word 10), when_either)
      (test _ _ (of_task (not_counted (word 2) longest)) (λ e.
      test _ _ (of_task (either_fails (ltb (word 6) (word 10)) (leb (word 10) (word 2)) (not_less (word 6) (word 10)) (not_at_most (word 10) (word 2)))) (λ f. r)))
    where
      of_task : {b : Bool} {P : Type 0} → (b ≡ true) ↔ P → (b ≡ true) ↔ (MarkAt bytes p tk × P)
      of_task e = ((λ h. (st, e.0 h)), λ h. e.1 h.1)

  pub task_obeys : (count : ℕ) → UpTo 1 before → how_many tk before ≡ count → MarkAt bytes p tk → Obeys (λ t. Unit {0}) (p + 14) read_rules (task_at bytes count p)
  unfolding task_at task_in
  task_obeys count o c st =
      rw (past (not (mark_at bytes p TK)) _ _ (ap not ((mark_exact bytes p 84 75).1 st)))
      (in_order tk st o
      (test _ _ (whole_exact tk st) (λ h.
      test _ _ (many_exact tk st count c) (λ l.
      window_obeys _ st (not_an_access tk st (λ z. omega arith) (not_the_end tk st (λ z. omega arith) (takes tt tt)))))))

  -- ---- SG

  pub signal_obeys : (count : ℕ) → UpTo 2 before → how_many sg before ≡ count → MarkAt bytes p sg → Obeys (λ v. Unit {0}) (p + 6) read_rules (signal_at bytes count p)
  unfolding signal_at
  signal_obeys count o c st =
      rw (past (not (mark_at bytes p SG)) _ _ (ap not ((mark_exact bytes p 83 71).1 st)))
      (in_order sg st o
      (test _ _ (whole_exact sg st) (λ h.
      test _ _ (many_exact sg st count c) (λ l.
      not_a_task sg st (λ z. omega arith) (not_an_access sg st (λ z. omega arith) (not_the_end sg st (λ z. omega arith) (takes tt tt)))))))

  -- ---- RD, WR

  access_whole : AccessAt bytes p → (not (holds_at bytes p 4) ≡ true) ↔ BrokenRead bytes before p record_cut
  access_whole (inl st) = whole_exact rd st
  access_whole (inr st) = whole_exact wr st

  pub access_many : (count : ℕ) → how_many rd before ≡ count → AccessAt bytes p → (leb most_accesses count ≡ true) ↔ BrokenRead bytes before p too_many_rule
  access_many count c (inl st) = many_exact rd st count c
  access_many count c (inr st) = many_exact wr st count (same_many wr rd refl before ∙ c)

  -- a number that names one of so many
  named_exact : (most n b : ℕ) → n ≡ most → AccessAt bytes p → (leb most b ≡ true) ↔ (AccessAt bytes p × (n ≤ b))
  named_exact most n b e a = ((λ t. (a, omega (arith, leb-true most b t))), λ d. le-leb most b (omega (arith, d.1)))

  pub access_obeys : (tasks signals count : ℕ) (last : Access) → UpTo 3 before → how_many tk before ≡ tasks → how_many sg before ≡ signals → how_many rd before ≡ count → signals ≤ most_signals → LastIs bytes before last
      → (m : Mark) → section_of m ≡ 3 → MarkAt bytes p m → AccessAt bytes p → Obeys (λ x. x ≡ access_in bytes p) (p + 4) read_rules (access_at bytes tasks signals count last p)
  unfolding access_at access_in
  access_obeys tasks signals count last o t s c few l m e st a =
      rw (past (eqb (right_at bytes p) 0) _ _ (ne_eqb (right_at bytes p) 0 (λ z. omega (arith, right_known bytes p a))))
      (in_order m st (rw e o)
      (test _ _ (access_whole a) (λ h.
      test _ _ (access_many count c a) (λ k.
      not_a_task m st (λ z. omega arith)
      (test _ _ (named_exact tasks _ _ t a) (λ i.
      test _ _ (named_exact signals _ _ s a) (λ j.
      test _ _ (after_exact bytes before last p l a (omega (arith, leb-false signals (byte_at bytes (p + 3)) j))) (λ r.
      not_the_end m st (λ z. omega arith) (takes refl tt)))))))))
