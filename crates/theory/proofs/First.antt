-- The answer is that of the first rule that is broken. Assumes nothing.
use Prim.Native.Nat.{ℕ, zero, suc, ◌+◌, ◌≤◌, ◌<◌, zero-le, suc-le-suc}
use native.Mathlib.Nat.{not-suc-le-zero, le_of_suc-le-suc, add-zero}
use native.Mathlib.Omega.{arith}
use mathlib.Core.Bool.{Bool, true, false, not, ◌&&◌, ◌||◌, cond, true≢false, false≢true}
use mathlib.Core.List.{List, [], ◌∷◌, ◌++◌, flat_map, append-nil, append_assoc}
use mathlib.Core.Logic.{◌↔◌, ◌≢◌, ◌⊎◌, inl, inr}
use mathlib.Core.Option.{Option, none, some}
use mathlib.Core.Path.{◌≡◌, refl, ap, subst}
use lib.Dec.{leb, ltb, eqb}
use lib.ListN.{length, get_or}
use borrow.Author.Tests.{eqb-true, eqb-false, eq-eqb, ltb-true, ltb-false, lt-ltb, leb-true, leb-false, le-leb, not-false}
use Rattle.rules.specs.Words.{total, gather, when, maybe, lowest}
use Rattle.rules.specs.Windows.{Table, opens, closes, hyper, instances}
use Rattle.rules.specs.Values.{Value, carried, by, signal_of, bound, IsValue}
use Rattle.rules.specs.Table.{longest, most_instances, most_uses, uses, single, every_writer, Fits}
use Rattle.rules.specs.Schedule.{Schedule, most, room, element_of, base, clash}
use Rattle.rules.specs.Plan.{live_list, plan}
use Rattle.rules.specs.Fields.{EN}
use Rattle.rules.specs.Bytes.{Part, bf, wi, ri, fixed, size, start_of, parts, schedule_length, schedule_in}
use Rattle.rules.specs.Numbers.{Told, tell, wrong_reader, shared}
use Rattle.rules.specs.Answers.{stands_at, free_fits, free_number, records_say, end_says, first_says, sent_wrong, sharing, whole_says, table_says, plan_says, live_says, check_says}
use Rattle.theory.specs.First.{FirstBrokenElse, FirstBroken, done, this, later, FirstOne, NoneBroken, TableRule, no_task_rule, long_hyper_rule, many_instances_rule, many_uses_rule, two_publish_rule, Twice, table_rules, table_told, TableFirst, TableDone, many_elements_rule, many_in_all_rule, short_buffer, PlanFirst, LiveFirst, CheckRule, cut, differs, out_of_range, bytes_after, sum_above_rule, sent_wrong_rule, shares, end_at, record_rules, reader_rules, writer_rules, check_rules, Differs, Before, Shares, BrokenCheck, check_told, CheckFirst, CheckDone}
use Rattle.theory.proofs.Tests.{split, both, no_test, not_is, and_is, and_not, or_cases, or_left, or_right, unless, not_unless}
use Rattle.theory.proofs.Lists.{All}
use Rattle.theory.proofs.Check.{writer_at, writer_not, apart_if, clash_at}
use Rattle.theory.proofs.Checked.{Of, parts_of_lem, apart_from_lem}

-- ---- rules in their order

pub first_one : {A : Type 0} (Broken : A → Type 0) (says : A → Told) → FirstOne Broken says
first_one Broken says o [] t u done done = refl
first_one Broken says o (x ∷ xs) t u (this b) (this c) = refl
first_one Broken says o (x ∷ xs) t u (this b) (later n q) = absurd (n b)
first_one Broken says o (x ∷ xs) t u (later n p) (this b) = absurd (n b)
first_one Broken says o (x ∷ xs) t u (later n p) (later m q) = first_one Broken says o xs t u p q

-- what holds of each rule's answer, and where none is broken, holds of the first
pub told_by : {A : Type 0} {Broken : A → Type 0} {says : A → Told} {otherwise : Told} {xs : List A} {t : Told} (Q : Told → Type 0) → ((x : A) → Q (says x)) → Q otherwise → FirstBrokenElse Broken says otherwise xs t → Q t
told_by Q f d done = d
told_by Q f d (this {x = x} b) = f x
told_by Q f d (later n r) = told_by Q f d r

module _ {A : Type 0} {Broken : A → Type 0} {says : A → Told} {otherwise : Told} where
  -- one test of a ladder, exact for its rule
  pub rung : {b : Bool} {x : A} {xs : List A} {t : Told} → (b ≡ true) ↔ Broken x → FirstBrokenElse Broken says otherwise xs t → FirstBrokenElse Broken says otherwise (x ∷ xs) (when b (says x) t)
  unfolding when
  rung {b = true} e r = this (e.0 refl)
  rung {b = false} e r = later (λ h. false≢true (e.1 h)) r

  -- the lowest number that passes a test, exact for each number's rule
  pub lowest_rung : {t : Told} (rule : ℕ → A) (p : ℕ → Bool) (xs : List A) (n : ℕ) → ((s : ℕ) → s < n → (p s ≡ true) ↔ Broken (rule s)) → FirstBrokenElse Broken says otherwise xs t
      → FirstBrokenElse Broken says otherwise (gather n (λ s. rule s ∷ []) ++ xs) (maybe (lowest p n) t (λ s. says (rule s)))
  unfolding gather lowest when
  lowest_rung {t = t} rule p xs zero e r = r
  lowest_rung {t = t} rule p xs (suc n) e r =
      rw (append_assoc (gather n (λ s. rule s ∷ [])) (rule n ∷ []) xs)
      (subst (FirstBrokenElse Broken says otherwise _) (same (lowest p n) (p n)) (lowest_rung {t = when (p n) (says (rule n)) t} rule p (rule n ∷ xs) n (λ s h. e s (omega arith)) (rung (e n (omega arith)) r)))
    where
      same : (o : Option ℕ) (b : Bool) → maybe o (when b (says (rule n)) t) (λ s. says (rule s)) ≡ maybe (maybe o (cond b (some n) none) some) t (λ s. says (rule s))
      same none true = refl
      same none false = refl
      same (some k) b = refl

  -- where each rule has a number, 0 says that none is broken
  pub done_exactly : ((x : A) → (says x).number ≢ 0) → otherwise.number ≡ 0 → (xs : List A) (t : Told) → FirstBrokenElse Broken says otherwise xs t → (t.number ≡ 0) ↔ NoneBroken Broken xs
  done_exactly z d [] t done = ((λ e. tt), λ n. d)
  done_exactly z d (x ∷ xs) t (this b) = ((λ e. absurd (z x e)), λ n. absurd (n.0 b))
  done_exactly z d (x ∷ xs) t (later m r) = let i = done_exactly z d xs t r in ((λ e. (m, i.0 e)), λ n. i.1 n.1)

-- ---- tests that are exact

less : (a b : ℕ) → (ltb a b ≡ true) ↔ (a < b)
less a b = (ltb-true a b, lt-ltb a b)

at_most : (a b : ℕ) → (leb a b ≡ true) ↔ (a ≤ b)
at_most a b = (leb-true a b, le-leb a b)

equal : (a b : ℕ) → (eqb a b ≡ true) ↔ (a ≡ b)
equal a b = (eqb-true a b, eq-eqb a b)

-- a test that is to fail
fails : {P : Type 0} (b : Bool) → (b ≡ false → P) → (P → b ≡ true → ⊥) → (not b ≡ true) ↔ P
fails b f g = ((λ e. f (not_is b e)), λ x. ap not (no_test b (g x)))

pub not_less : (a b : ℕ) → (not (ltb a b) ≡ true) ↔ (b ≤ a)
not_less a b = fails (ltb a b) (ltb-false a b) (λ h e. omega (arith, ltb-true a b e))

not_equal : (a b : ℕ) → (not (eqb a b) ≡ true) ↔ (a ≢ b)
not_equal a b = fails (eqb a b) (eqb-false a b) (λ n e. n (eqb-true a b e))

-- of two tests one is to fail
pub either_fails : {P Q : Type 0} (a b : Bool) → (not a ≡ true) ↔ P → (not b ≡ true) ↔ Q → (not (a && b) ≡ true) ↔ (P ⊎ Q)
either_fails {P} {Q} true b e f = ((λ h. inr (f.0 h)), back)
  where
    back : P ⊎ Q → not b ≡ true
    back (inl x) = absurd (false≢true (e.1 x))
    back (inr y) = f.1 y
either_fails false b e f = ((λ h. inl (e.0 h)), λ x. refl)

pub not_at_most : (a b : ℕ) → (not (leb a b) ≡ true) ↔ (b < a)
not_at_most a b = fails (leb a b) (leb-false a b) (λ h e. omega (arith, leb-true a b e))

pub not_counted : (c m : ℕ) → (not (leb 1 c && leb c m) ≡ true) ↔ ((c ≡ 0) ⊎ (m < c))
not_counted c m = either_fails (leb 1 c) (leb c m) (fails (leb 1 c) (λ e. omega (arith, leb-false 1 c e)) (λ z e. omega (arith, leb-true 1 c e))) (not_at_most c m)

earlier : (l j k i : ℕ) → ((ltb l k || (eqb l k && ltb j i)) ≡ true) ↔ ((l < k) ⊎ ((l ≡ k) × (j < i)))
earlier l j k i = ((λ e. there (or_cases (ltb l k) (eqb l k && ltb j i) e)), back)
  where
    there : (ltb l k ≡ true) ⊎ ((eqb l k && ltb j i) ≡ true) → (l < k) ⊎ ((l ≡ k) × (j < i))
    there (inl a) = inl (ltb-true l k a)
    there (inr a) = let b = both (eqb l k) (ltb j i) a in inr (eqb-true l k b.0, ltb-true j i b.1)

    back : (l < k) ⊎ ((l ≡ k) × (j < i)) → (ltb l k || (eqb l k && ltb j i)) ≡ true
    back (inl h) = or_left (ltb l k) (eqb l k && ltb j i) (lt-ltb l k h)
    back (inr (e, h)) = or_right (ltb l k) (eqb l k && ltb j i) (and_is (eq-eqb l k e) (lt-ltb j i h))

-- a byte that differs is found
differs_at : (bytes : List ℕ) (p : ℕ) (fs : List ℕ) → stands_at bytes p fs ≡ false → Differs bytes p fs
unfolding stands_at
differs_at bytes p [] e = absurd (true≢false e)
differs_at bytes p (f ∷ fs) e =
    split (eqb (get_or bytes p 0) f)
    (λ a.
    let (j, l, n) = differs_at bytes (suc p) fs (and_not (eqb (get_or bytes p 0) f) (stands_at bytes (suc p) fs) a e) in
    let z : p + suc j ≡ suc p + j = omega arith in
    (suc j, suc-le-suc l, rw z n))
    (λ a. (0, suc-le-suc zero-le, rw (add-zero p) (eqb-false (get_or bytes p 0) f a)))

-- and where they stand, none differs
stands_same : (bytes : List ℕ) (p : ℕ) (fs : List ℕ) → stands_at bytes p fs ≡ true → (j : ℕ) → j < length fs → get_or bytes (p + j) 0 ≡ get_or fs j 0
unfolding stands_at
stands_same bytes p [] e j l = absurd (not-suc-le-zero l)
stands_same bytes p (f ∷ fs) e zero l = rw (add-zero p) (eqb-true (get_or bytes p 0) f (both (eqb (get_or bytes p 0) f) (stands_at bytes (suc p) fs) e).0)
stands_same bytes p (f ∷ fs) e (suc j) l =
    let z : p + suc j ≡ suc p + j = omega arith in
    rw z (stands_same bytes (suc p) fs (both (eqb (get_or bytes p 0) f) (stands_at bytes (suc p) fs) e).1 j (le_of_suc-le-suc l))

different : (bytes : List ℕ) (p : ℕ) (fs : List ℕ) → (not (stands_at bytes p fs) ≡ true) ↔ Differs bytes p fs
different bytes p fs = fails (stands_at bytes p fs) (differs_at bytes p fs) (λ d e. d.2 (stands_same bytes p fs e d.0 d.1))

module _ (tab : Table) where
  -- ---- the table

  twice : (s : ℕ) → s < tab.signals → (not (single tab s) ≡ true) ↔ Twice tab s
  unfolding single
  twice s y = fails (single tab s) found shown
    where
      found : single tab s ≡ false → Twice tab s
      found e =
          let (k, i, h, w, m, a) = writer_not tab s (λ k i. every_writer tab s (λ l j. not (eqb (closes tab k i) (closes tab l j)) || eqb k l)) e in
          let (l, j, g, v, n, b) = writer_not tab s (λ l j. not (eqb (closes tab k i) (closes tab l j)) || eqb k l) a in
          let (c, d) = not_unless (eqb (closes tab k i) (closes tab l j)) (eqb k l) b in
          record {
            k = k;
            i = i;
            l = l;
            j = j;
            one = (y, h, w, m);
            other = (y, g, v, n);
            two_tasks = eqb-false k l d;
            at_once = eqb-true (closes tab k i) (closes tab l j) c;
          }

      shown : Twice tab s → single tab s ≡ true → ⊥
      shown d e =
          let (a, h, w, m) = d.one in
          let (b, g, v, n) = d.other in
          let q = writer_at tab s _ (writer_at tab s _ e d.k d.i h w m) d.l d.j g v n in
          d.two_tasks (eqb-true d.k d.l (unless _ _ q (eq-eqb _ _ d.at_once)))

  pub table_first : TableFirst tab
  unfolding table_says
  table_first =
      rung (equal tab.tasks 0)
      (rung (less longest (hyper tab))
      (rung (less most_instances (total (instances tab) tab.tasks))
      (rung (less most_uses (uses tab))
      (rw (← append-nil (gather tab.signals (λ s. two_publish_rule s ∷ []))) (lowest_rung two_publish_rule (λ s. not (single tab s)) [] tab.signals twice done)))))

  pub table_done : TableDone tab
  table_done = done_exactly numbered refl (table_rules tab) (table_says tab) table_first
    where
      numbered : (x : TableRule) → (table_told x).number ≢ 0
      numbered no_task_rule e = omega arith
      numbered long_hyper_rule e = omega arith
      numbered many_instances_rule e = omega arith
      numbered many_uses_rule e = omega arith
      numbered (two_publish_rule s) e = omega arith

  -- ---- planning and the live list

  pub plan_first : (lent : ℕ) → PlanFirst tab lent
  unfolding plan_says
  plan_first lent =
      lowest_rung many_elements_rule (λ s. ltb (most tab) ((plan tab).count s)) (many_in_all_rule ∷ short_buffer ∷ []) tab.signals (λ s y. less (most tab) ((plan tab).count s))
      (rung (less (room tab) (base (plan tab) tab.signals))
      (rung (less lent (schedule_length tab)) done))

  pub live_first : (s lent : ℕ) → LiveFirst tab s lent
  unfolding live_says
  live_first s lent = rung (at_most tab.signals s) (rung (less (most tab) ((plan tab).count s)) (rung (less lent (length (live_list tab s))) done))

  -- ---- the schedule

  module _ (bytes : List ℕ) where
    abbrev E : Schedule
    E = schedule_in tab bytes

    abbrev Answer : List CheckRule → Told → Type 0
    Answer = FirstBroken (BrokenCheck tab bytes) (check_told tab)

    range_first : (x : Part) (ys : List CheckRule) (t : Told) → Answer ys t → Answer (out_of_range x ∷ ys) (when (not (free_fits tab E x)) (tell (free_number tab x) (start_of tab x)) t)
    range_first (bf s) ys t r = rung (not_counted (E.count s) (most tab)) r
    range_first (wi s k i) ys t r = rung (not_less (E.writer s k i) (E.count s)) r
    range_first (ri s k i) ys t r = rung (not_less (E.reader s k i) (E.count s)) r

    records_first : (xs : List Part) (ys : List CheckRule) (t : Told) → Answer ys t → Answer (flat_map (record_rules tab) xs ++ ys) (records_say tab bytes xs t)
    unfolding flat_map records_say
    records_first [] ys t r = r
    records_first (x ∷ xs) ys t r = rung (less (length bytes) (start_of tab x + size x)) (rung (different bytes (start_of tab x) (fixed x)) (range_first x _ _ (records_first xs ys t r)))

    -- one walk over all records, which asks each for its rules
    walk_first : (wrong : Part → Bool) (number : ℕ) (rules : Part → List CheckRule)
        → ((x : Part) (ys : List CheckRule) (t : Told) → Of tab x → Answer ys t → Answer (rules x ++ ys) (when (wrong x) (tell number (start_of tab x)) t))
        → (xs : List Part) (ys : List CheckRule) (t : Told) → All (Of tab) xs → Answer ys t → Answer (flat_map rules xs ++ ys) (first_says tab wrong number xs t)
    unfolding flat_map first_says
    walk_first wrong number rules f [] ys t a r = r
    walk_first wrong number rules f (x ∷ xs) ys t a r = rw (append_assoc (rules x) (flat_map rules xs) ys) (f x _ _ a.0 (walk_first wrong number rules f xs ys t a.1 r))

    reader_first : (x : Part) (ys : List CheckRule) (t : Told) → Of tab x → Answer ys t → Answer (reader_rules x ++ ys) (when (sent_wrong tab E x) (tell wrong_reader (start_of tab x)) t)
    unfolding when
    reader_first (bf s) ys t y r = r
    reader_first (wi s k i) ys t y r = r
    reader_first (ri s k i) ys t y r = rung (not_equal (E.reader s k i) (element_of E (bound tab s (opens tab k i)))) r

    module _ (F : Fits tab) where
      sharing_is : (s k i : ℕ) → IsValue tab (by s k i) → (sharing tab E (wi s k i) ≡ true) ↔ Shares tab E s k i
      sharing_is s k i y = ((λ e. found (or_cases (clash tab E (carried s) (by s k i)) _ e)), λ d. split (sharing tab E (wi s k i)) (λ e. e) (λ e. absurd (other d.u d.before (shown d e))))
        where
          meet : (u : Value) → IsValue tab u → signal_of u ≡ s → Before u k i → clash tab E u (by s k i) ≡ true → Shares tab E s k i
          meet u x z b c =
              let (t, l, m, e, n) = clash_at tab E F u (by s k i) x y c in
              record { u = u; is_value = x; of_signal = z; before = b; tick = t; live = l; also_live = m; one_element = e }

          found : (clash tab E (carried s) (by s k i) ≡ true) ⊎ (not (every_writer tab s (λ l j. not (ltb l k || (eqb l k && ltb j i)) || not (clash tab E (by s l j) (by s k i)))) ≡ true) → Shares tab E s k i
          found (inl c) = meet (carried s) y.0 refl tt c
          found (inr n) =
              let (l, j, h, w, m, a) = writer_not tab s (λ l j. not (ltb l k || (eqb l k && ltb j i)) || not (clash tab E (by s l j) (by s k i))) (not_is _ n) in
              let (b, c) = not_unless (ltb l k || (eqb l k && ltb j i)) (not (clash tab E (by s l j) (by s k i))) a in
              meet (by s l j) (y.0, h, w, m) refl ((earlier l j k i).0 b) (not-false (clash tab E (by s l j) (by s k i)) c)

          free : sharing tab E (wi s k i) ≡ false → (u : Value) → IsValue tab u → signal_of u ≡ s → Before u k i → clash tab E u (by s k i) ≡ false
          free e (carried r) x z b = rw z (apart_from_lem tab E s k i e).0
          free e (by r l j) x z b = rw z ((apart_from_lem tab E s k i e).1 l j x.1 (rw z at x.2) x.3 ((earlier l j k i).1 b))

          shown : (d : Shares tab E s k i) → sharing tab E (wi s k i) ≡ false → d.u ≡ by s k i
          shown d e = apart_if tab E d.u (by s k i) d.tick (free e d.u d.is_value d.of_signal d.before) d.live d.also_live d.one_element

          -- an earlier value is another one
          other : (u : Value) → Before u k i → u ≡ by s k i → ⊥
          other (carried r) b q = let z : ◌≡◌ {A = ℕ} 0 1 = cc in omega arith
          other (by r l j) (inl h) q = let z : l ≡ k = cc in omega arith
          other (by r l j) (inr (e, h)) q = let z : j ≡ i = cc in omega arith

      writer_first : (x : Part) (ys : List CheckRule) (t : Told) → Of tab x → Answer ys t → Answer (writer_rules x ++ ys) (when (sharing tab E x) (tell shared (start_of tab x)) t)
      unfolding when
      writer_first (bf s) ys t y r = r
      writer_first (wi s k i) ys t y r = rung (sharing_is s k i y) r
      writer_first (ri s k i) ys t y r = r

  pub check_first : CheckFirst tab
  unfolding check_says end_says whole_says
  check_first F bytes =
      records_first bytes (parts tab) _ _
      (rung (less (length bytes) (end_at tab + 2))
      (rung (different bytes (end_at tab) EN)
      (rung (less (end_at tab + 2) (length bytes))
      (rung (less (room tab) (base (schedule_in tab bytes) tab.signals))
      (walk_first bytes (sent_wrong tab (schedule_in tab bytes)) wrong_reader reader_rules (reader_first bytes) (parts tab) _ _ (parts_of_lem tab)
      (rw (← append-nil (flat_map writer_rules (parts tab))) (walk_first bytes (sharing tab (schedule_in tab bytes)) shared writer_rules (writer_first bytes F) (parts tab) _ _ (parts_of_lem tab) done)))))))

  pub check_done : CheckDone tab
  check_done F bytes = done_exactly numbered refl (check_rules tab) (check_says tab bytes) (check_first F bytes)
    where
      numbered : (x : CheckRule) → (check_told tab x).number ≢ 0
      numbered (cut p n) e = omega arith
      numbered (differs p fs) e = omega arith
      numbered (out_of_range (bf s)) e = omega arith
      numbered (out_of_range (wi s k i)) e = omega arith
      numbered (out_of_range (ri s k i)) e = omega arith
      numbered bytes_after e = omega arith
      numbered sum_above_rule e = omega arith
      numbered (sent_wrong_rule s k i) e = omega arith
      numbered (shares s k i) e = omega arith
