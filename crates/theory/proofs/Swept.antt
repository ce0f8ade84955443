-- The pass over openings and closings says whether a signal passes. Assumes nothing.
use mathlib.Core.Bool.{true, false, ◌&&◌, cond}
use mathlib.Core.List.{List, [], ◌∷◌, ◌++◌}
use mathlib.Core.Logic.{inl, ⊎_elim}
use mathlib.Core.Option.{none, some}
use mathlib.Core.Path.{◌≡◌, refl, sym, ap, subst, ◌∙◌}
use Prim.Native.Nat.{ℕ, zero, suc, ◌+◌, ◌*◌, ◌-◌, ◌/◌, ◌%◌, ◌≤◌, ◌<◌}
use native.Mathlib.Nat.{add-zero}
use native.Mathlib.Omega.{arith}
use lib.Arith.{digits_div, digits_mod}
use lib.Dec.{T, leb, eqb}
use borrow.Author.Tests.{leb-true, leb-false, eqb-true, eqb-false, eq-eqb, ne_eqb}
use Rattle.rules.specs.Words.{gather, only, highest, maybe}
use Rattle.rules.specs.Windows.{Table, opens, closes, instance, instances, hyper}
use Rattle.rules.specs.Values.{Value, carried, by, signal_of, publisher, bound, opening, until, Live, IsValue}
use Rattle.rules.specs.Table.{most_tasks, Fits}
use Rattle.rules.specs.Schedule.{Schedule, most, element_of}
use Rattle.theory.specs.Sweep.{closing_number, opening_number, task_in, tick_in, is_opening, openings_at, closings_after, events, through, opened, closed, acted, reader_opens, writer_opens, writer_closes, started, sweep, SignalPasses, SweepExact, SweepsExact}
use Rattle.theory.proofs.Tests.{split, split_option, both, is, holds, not_both}
use Rattle.theory.proofs.Time.{highest_some, instance_lt, closes_le}
use Rattle.theory.proofs.Bound.{value_signal, bound_signal, bound_value, live_begins}
use Rattle.theory.proofs.Sweep.{Opened, Begun, Before, begun_le, opens_instance, order, Free, Kept, no_reader, reader_opens_lem, no_writer, writer_opens_lem, nothing_closes, writer_closes_lem, at_start}

-- ---- one after the other

module _ {A : Type 0} (f : A → ℕ → A) where
  pub through_append : (a : A) (xs ys : List ℕ) → through f a (xs ++ ys) ≡ through f (through f a xs) ys
  unfolding through
  through_append a [] ys = refl
  through_append a (x ∷ xs) ys = through_append (f a x) xs ys

  pub through_gather : (P : ℕ → A → Type 0) (g : ℕ → List ℕ) (a : A) (n : ℕ) → P 0 a → ((k : ℕ) (b : A) → k < n → P k b → P (suc k) (through f b (g k))) → P n (through f a (gather n g))
  unfolding through gather
  through_gather P g a zero z e = z
  through_gather P g a (suc n) z e =
      rw (through_append a (gather n g) (g n)) (e n (through f a (gather n g)) (omega arith) (through_gather P g a n z (λ k b h. e k b (omega arith))))

-- ---- what the numbers say

pub opening_digits : (t k : ℕ) → k < most_tasks → (is_opening (opening_number t k) ≡ true) × (task_in (opening_number t k) ≡ k) × (tick_in (opening_number t k) ≡ t)
opening_digits t k h =
    let d : opening_number t k / most_tasks ≡ t * 2 + 1 = digits_div (t * 2 + 1) h in (
      eq-eqb _ 1 (ap (λ x. x % 2) d ∙ digits_mod t {m = 2} {r = 1} (omega arith)),
      digits_mod (t * 2 + 1) h,
      ap (λ x. x / 2) d ∙ digits_div t {m = 2} {r = 1} (omega arith),
    )

pub closing_digits : (t k : ℕ) → k < most_tasks → (is_opening (closing_number t k) ≡ false) × (task_in (closing_number t k) ≡ k) × (tick_in (closing_number t k) ≡ t)
closing_digits t k h =
    let d : closing_number t k / most_tasks ≡ t * 2 + 0 = digits_div (t * 2) h ∙ sym (add-zero (t * 2)) in
    let z : closing_number t k / most_tasks % 2 ≡ 0 = ap (λ x. x % 2) d ∙ digits_mod t {m = 2} {r = 0} (omega arith) in (
      ne_eqb (closing_number t k / most_tasks % 2) 1 (λ w. omega arith),
      digits_mod (t * 2) h,
      ap (λ x. x / 2) d ∙ digits_div t {m = 2} {r = 0} (omega arith),
    )

-- ---- tick by tick

-- A pass that at each opening reads, then writes, and at each closing publishes, as the table says of signal s.
module _ (tab : Table) (s : ℕ) {A : Type 0} (reads writes publishes : A → ℕ → ℕ → A) where
  abbrev f : A → ℕ → A
  f = acted tab s reads writes publishes

  at_opening : (a : A) (t k : ℕ) → k < most_tasks → f a (opening_number t k) ≡ opened tab s reads writes a k t
  unfolding acted
  at_opening a t k h = let d = opening_digits t k h in rw (d.0, d.1, d.2)

  at_closing : (a : A) (t k : ℕ) → k < most_tasks → f a (closing_number (suc t) k) ≡ closed tab s publishes a k t
  unfolding acted
  at_closing a t k h = let d = closing_digits (suc t) k h in let e : suc t - 1 ≡ t = omega arith in rw (d.0, d.1, d.2, e)

  -- what it keeps at tick t, once the readers below k and the writers below l have opened
  pub record Steps (P : ℕ → ℕ → ℕ → A → Type 0) : Type 0 where
    pub no_reader : (t k l : ℕ) (a : A) → t < hyper tab → k < tab.tasks → ((i : ℕ) → opens tab k i ≡ t → T (tab.reads s k) → ⊥) → P t k l a → P t (suc k) l a
    pub reader : (t k l : ℕ) (a : A) → t < hyper tab → k < tab.tasks → opens tab k (instance tab k t) ≡ t → T (tab.reads s k) → P t k l a → P t (suc k) l (reads a k t)
    pub no_writer : (t k l : ℕ) (a : A) → t < hyper tab → k < tab.tasks → ((i : ℕ) → opens tab k i ≡ t → T (tab.writes s k) → ⊥) → P t l k a → P t l (suc k) a
    pub writer : (t k l : ℕ) (a : A) → t < hyper tab → k < tab.tasks → opens tab k (instance tab k t) ≡ t → T (tab.writes s k) → P t l k a → P t l (suc k) (writes a k t)
    pub silent : (t : ℕ) (a : A) → t < hyper tab → publisher tab s t ≡ none → P t tab.tasks tab.tasks a → P (suc t) 0 0 a
    pub published : (t k : ℕ) (a : A) → t < hyper tab → publisher tab s t ≡ some k → P t tab.tasks tab.tasks a → P (suc t) 0 0 (publishes a k t)

  module _ (F : Fits tab) (y : s < tab.signals) (P : ℕ → ℕ → ℕ → A → Type 0) (S : Steps P) where
    -- of the tasks that close at t + 1 only the one that publishes signal s matters
    closings_are : (t : ℕ) (a : A) (n : ℕ) → t < hyper tab → n ≤ tab.tasks
        → through f a (gather n (λ k. only (eqb (closes tab k (instance tab k t)) (suc t)) (closing_number (suc t) k)))
        ≡ maybe (highest (λ k. tab.writes s k && eqb (closes tab k (instance tab k t)) (suc t)) n) a (λ k. publishes a k t)
    unfolding through gather highest
    closings_are t a zero h l = refl
    closings_are t a (suc n) h l =
        let r = closings_are t a n h (omega arith) in
        through_append f a (gather n (λ k. only (eqb (closes tab k (instance tab k t)) (suc t)) (closing_number (suc t) k))) _
        ∙ split (eqb (closes tab n (instance tab n t)) (suc t))
        (λ c. split (tab.writes s n)
        (λ w. rw (c, w, at_closing (through f a (gather n (λ k. only (eqb (closes tab k (instance tab k t)) (suc t)) (closing_number (suc t) k)))) t n (omega (arith, F.few_tasks)), w, r, alone w c))
        (λ w. rw (c, w, at_closing (through f a (gather n (λ k. only (eqb (closes tab k (instance tab k t)) (suc t)) (closing_number (suc t) k)))) t n (omega (arith, F.few_tasks)), w) r))
        (λ c. split (tab.writes s n) (λ w. rw (c, w) r) (λ w. rw (c, w) r))
      where
        alone : tab.writes s n ≡ true → eqb (closes tab n (instance tab n t)) (suc t) ≡ true → highest (λ k. tab.writes s k && eqb (closes tab k (instance tab k t)) (suc t)) n ≡ none
        alone w c =
            split_option (highest (λ k. tab.writes s k && eqb (closes tab k (instance tab k t)) (suc t)) n)
            (λ e. e)
            (λ k e.
            let (a, b) = highest_some _ n k e in
            let (d, f) = both (tab.writes s k) (eqb (closes tab k (instance tab k t)) (suc t)) b in
            let m : k < tab.tasks = omega arith in
            let z = F.single s y k n (instance tab k t) (instance tab n t) m l (holds d) (holds w) (instance_lt tab F k t m h) (instance_lt tab F n t l h)
            (eqb-true (closes tab k (instance tab k t)) (suc t) f ∙ sym (eqb-true (closes tab n (instance tab n t)) (suc t) c)) in
            absurd (omega arith))

    reader_kept : (t k l : ℕ) (a : A) → t < hyper tab → k < tab.tasks → opens tab k (instance tab k t) ≡ t → P t k l a → P t (suc k) l (cond (tab.reads s k) (reads a k t) a)
    reader_kept t k l a h m o K =
        split (tab.reads s k)
        (λ r. rw r (S.reader t k l a h m o (holds r) K))
        (λ r. rw r (S.no_reader t k l a h m (λ i e x. not_both (is (tab.reads s k) x) r) K))

    writer_kept : (t k l : ℕ) (a : A) → t < hyper tab → k < tab.tasks → opens tab k (instance tab k t) ≡ t → P t l k a → P t l (suc k) (cond (tab.writes s k) (writes a k t) a)
    writer_kept t k l a h m o K =
        split (tab.writes s k)
        (λ w. rw w (S.writer t k l a h m o (holds w) K))
        (λ w. rw w (S.no_writer t k l a h m (λ i e x. not_both (is (tab.writes s k) x) w) K))

    opening_kept : (t k : ℕ) (a : A) → t < hyper tab → k < tab.tasks → P t k k a → P t (suc k) (suc k) (through f a (only (eqb (opens tab k (instance tab k t)) t) (opening_number t k)))
    unfolding through
    opening_kept t k a h m K =
        split (eqb (opens tab k (instance tab k t)) t)
        (λ q. let o = eqb-true (opens tab k (instance tab k t)) t q in
        rw (q, at_opening a t k (omega (arith, F.few_tasks)))
        (writer_kept t k (suc k) (cond (tab.reads s k) (reads a k t) a) h m o (reader_kept t k k a h m o K)))
        (λ q.
        let none : (i : ℕ) → opens tab k i ≡ t → ⊥ = λ i e. eqb-false (opens tab k (instance tab k t)) t q (subst (λ j. opens tab k j ≡ t) (opens_instance tab F k i t m e) e) in
        rw q (S.no_writer t k (suc k) a h m (λ i e x. none i e) (S.no_reader t k k a h m (λ i e x. none i e) K)))

    closings_kept : (t : ℕ) (a : A) → t < hyper tab → P t tab.tasks tab.tasks a → P (suc t) 0 0 (through f a (closings_after tab t))
    unfolding publisher
    closings_kept t a h K =
        rw (closings_are t a tab.tasks h (omega arith))
        (split_option (publisher tab s t) (λ n. rw n (S.silent t a h n K)) (λ k n. rw n (S.published t k a h n K)))

    -- it keeps it to the end of the hyper-period
    pub passed : (a : A) → P 0 0 0 a → P (hyper tab) 0 0 (through f a (events tab))
    unfolding events
    passed a z =
        through_gather f (λ t p. P t 0 0 p) (λ t. openings_at tab t ++ closings_after tab t) a (hyper tab) z
        (λ t p h K. rw (through_append f p (openings_at tab t) (closings_after tab t))
        (closings_kept t (through f p (openings_at tab t)) h
        (through_gather f (λ k q. P t k k q) (λ k. only (eqb (opens tab k (instance tab k t)) t) (opening_number t k)) p tab.tasks K
        (λ k q m. opening_kept t k q h m))))

-- ---- the check's pass

module _ (tab : Table) (F : Fits tab) (E : Schedule) (s : ℕ) (y : s < tab.signals) (low : (v : Value) → IsValue tab v → signal_of v ≡ s → element_of E v < most tab) where
  checked : Steps tab s (reader_opens tab E s) (writer_opens tab E s) (writer_closes tab E s) (Kept tab F E s y)
  checked = record {
    no_reader = λ t k l p h m f K. no_reader tab F E s y t k l p h m (λ i e x. f i e x.1) K;
    reader = λ t k l p h m o r K. reader_opens_lem tab F E s y t k l p h m o r K;
    no_writer = λ t k l p h m f K. no_writer tab F E s y t k l p h m (λ i e x. f i e x.2) K;
    writer = λ t k l p h m o w K. writer_opens_lem tab F E s y t k l p h m o w (low (by s k (instance tab k t)) (y, m, w, instance_lt tab F k t m h) refl) K;
    silent = λ t p h n K. nothing_closes tab F E s y t p h K n;
    published = λ t k p h n K. writer_closes_lem tab F E s y t p h K k n (low (bound tab s t) (bound_value tab F s y t (omega arith)) (bound_signal tab s t));
  }

  swept : Kept tab F E s y (hyper tab) 0 0 (sweep tab E s)
  unfolding sweep
  swept = passed tab s (reader_opens tab E s) (writer_opens tab E s) (writer_closes tab E s) F y (Kept tab F E s y) checked (started tab E s) (at_start tab F E s y)

-- ---- at the end

module _ (tab : Table) where
  before_other : (u v : Value) → Before tab u v → (opening tab u ≤ opening tab v) × (u ≡ v → ⊥)
  before_other u (carried r) b = absurd b
  before_other u (by r j i) b = (begun_le tab (opens tab j i) j u b, λ e. itself (subst (λ w. Begun tab (opens tab j i) j w) e b))
    where
      itself : Opened tab (opens tab j i) j j i → ⊥
      itself o = ⊎_elim (λ l. omega arith) (λ e. omega arith) o

  -- values that are apart find their elements free
  pub apart_free : (F : Fits tab) (E : Schedule) (s : ℕ) (y : s < tab.signals)
      → ((u v : Value) (t : ℕ) → IsValue tab u → IsValue tab v → signal_of u ≡ s → signal_of v ≡ s → Live tab u t → Live tab v t → element_of E u ≡ element_of E v → u ≡ v)
      → (t k : ℕ) → Free tab F E s y t k
  apart_free F E s y apart t k u v x z a b c d e =
      let f = before_other u v d in
      split (leb (until tab u) (opening tab v))
      (λ q. leb-true (until tab u) (opening tab v) q)
      (λ q. absurd (f.1 (apart u v (opening tab v) x z a b (f.0, leb-false (until tab u) (opening tab v) q) (omega arith, live_begins tab F v z) e)))

  pub sweep_exact : SweepExact tab
  sweep_exact F E s y low =
      let K = swept tab F E s y low in (
        (λ q.
            let g = K.exact.0 q in
            record {
              binds = λ k i h r l. g.0 k i (inl (ends k i h l)) (h, r, l);
              apart = λ u v t x z a b m n e. ⊎_elim (λ c. c)
                  (λ c. ⊎_elim
                  (λ c. let w : ⊥ = omega (arith, g.1 u v x z a b (all v z) c e) in absurd w)
                  (λ c. let w : ⊥ = omega (arith, g.1 v u z x b a (all u x) c (sym e)) in absurd w)
                  c)
                  (order tab F u v x z (a ∙ sym b));
            }),
        λ P. K.exact.1 ((λ j i o r. P.binds j i r.0 r.1 r.2), apart_free F E s y P.apart (hyper tab) 0),
      )
    where
      ends : (k i : ℕ) → k < tab.tasks → i < instances tab k → opens tab k i < hyper tab
      ends k i h l = omega (arith, F.window k h, closes_le tab F k i h l)

      all : (v : Value) → IsValue tab v → Begun tab (hyper tab) 0 v
      all (carried r) x = tt
      all (by r j i) x = inl (ends j i x.1 x.3)

  pub sweeps_exact : SweepsExact tab
  sweeps_exact F E C = (
    (λ q. record {
      counted = C.counted;
      in_all = C.in_all;
      below = C.below;
      binds = λ s k i y. (passing q s y).binds k i;
      apart = λ u v t x z e m n f. (passing q (signal_of v) (value_signal tab v z)).apart u v t x z e refl m n f;
    }),
    λ P s y. (sweep_exact F E s y (low s y)).1 (record {
      binds = λ k i. P.binds s k i y;
      apart = λ u v t x z a b. P.apart u v t x z (a ∙ sym b);
    }),
  )
    where
      low : (s : ℕ) → s < tab.signals → (v : Value) → IsValue tab v → signal_of v ≡ s → element_of E v < most tab
      low s y v x e = omega (arith, C.below v x, ap E.count e, C.counted s y)

      passing : ((s : ℕ) → s < tab.signals → (sweep tab E s).right ≡ true) → (s : ℕ) → s < tab.signals → SignalPasses tab E s
      passing q s y = (sweep_exact F E s y (low s y)).0 (q s y)
