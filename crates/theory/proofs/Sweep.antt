-- What the pass over openings and closings keeps, moment by moment. Assumes nothing.
use mathlib.Core.Bool.{true}
use mathlib.Core.List.{List}
use mathlib.Core.Logic.{◌⊎◌, inl, inr, ⊎_elim, ◌↔◌}
use mathlib.Core.Option.{none, some}
use mathlib.Core.Path.{◌≡◌, refl, sym, ap, subst, ◌∙◌}
use Prim.Native.Nat.{ℕ, suc, ◌-◌, ◌≤◌, ◌<◌, max, zero-le}
use native.Mathlib.Omega.{arith}
use lib.Dec.{T, leb, ltb, eqb}
use lib.ListN.{length, get_or, set, length-set, length-replicate}
use lib.Seq.{get_or-set_same, get_or-set_other}
use borrow.Author.Tests.{leb-true, leb-false, le-leb, ltb-true, ltb-false, eqb-true, eqb-false, eq-eqb}
use Rattle.rules.specs.Windows.{Table, opens, closes, instance, instances, hyper}
use Rattle.rules.specs.Values.{Value, carried, by, signal_of, publisher, latest, bound, opening, closing, until, IsValue}
use Rattle.rules.specs.Table.{Fits}
use Rattle.rules.specs.Schedule.{Schedule, most, element_of}
use Rattle.theory.specs.Sweep.{Pass, never, none_held, reader_opens, writer_opens, writer_closes, started}
use Rattle.theory.proofs.Tests.{split, both, and_is}
use Rattle.theory.proofs.Time.{instance_is, instance_lt, closes_le, publisher_some}
use Rattle.theory.proofs.Bound.{bound_none, bound_some, bound_signal, bound_value, closing_le, live_writer, live_bound, live_begins}
use Rattle.theory.proofs.Needed.{next_le, stands_closing, live_within, closing_within}
use Rattle.theory.proofs.Joins.{after, bound_between, until_is}
use Rattle.theory.proofs.Linear.{nothing_held}

module _ (tab : Table) where
  -- instance i of task j has opened, once at tick t the tasks below k have
  abbrev pub Opened : ℕ → ℕ → ℕ → ℕ → Type 0
  Opened t k j i = (opens tab j i < t) ⊎ ((opens tab j i ≡ t) × (j < k))

  -- value v is there then
  abbrev pub Begun : ℕ → ℕ → Value → Type 0
  Begun t k (carried r) = Unit {0}
  Begun t k (by r j i) = Opened t k j i

  -- u is there when v opens
  abbrev pub Before : Value → Value → Type 0
  Before u (carried r) = ⊥
  Before u (by r j i) = Begun (opens tab j i) j u

  pub opened_each : (X : ℕ → ℕ → Type 0) (t k : ℕ) → ((j i : ℕ) → Opened t k j i → X j i) → ((i : ℕ) → opens tab k i ≡ t → X k i) → (j i : ℕ) → Opened t (suc k) j i → X j i
  opened_each X t k old new j i (inl l) = old j i (inl l)
  opened_each X t k old new j i (inr e) =
      split (eqb j k)
      (λ q. subst (λ x. (i : ℕ) → opens tab x i ≡ t → X x i) (sym (eqb-true j k q)) new i e.0)
      (λ q. let z = eqb-false j k q in old j i (inr (e.0, omega arith)))

  opened_le : (t k j i : ℕ) → Opened t k j i → opens tab j i ≤ t
  opened_le t k j i o = ⊎_elim (λ l. omega arith) (λ e. omega arith) o

  opened_more : (t k j i : ℕ) → Opened t k j i → Opened t (suc k) j i
  opened_more t k j i o = ⊎_elim (λ l. inl l) (λ e. inr (e.0, omega arith)) o

  -- after the last opening of a tick comes the next tick
  pub opened_next : (t j i : ℕ) → j < tab.tasks → Opened t tab.tasks j i ↔ Opened (suc t) 0 j i
  opened_next t j i h = (
    (λ o. inl (omega (arith, opened_le t tab.tasks j i o))),
    λ o. let l = opened_upto o in split (ltb (opens tab j i) t) (λ q. inl (ltb-true (opens tab j i) t q)) (λ q. inr (omega (arith, ltb-false (opens tab j i) t q), h)),
  )
    where
      opened_upto : Opened (suc t) 0 j i → opens tab j i ≤ t
      opened_upto o = ⊎_elim (λ l. omega arith) (λ e. absurd (omega arith)) o

  pub begun_le : (t k : ℕ) (v : Value) → Begun t k v → opening tab v ≤ t
  begun_le t k (carried r) b = zero-le
  begun_le t k (by r j i) b = opened_le t k j i b

  begun_more : (t k : ℕ) (v : Value) → Begun t k v → Begun t (suc k) v
  begun_more t k (carried r) b = tt
  begun_more t k (by r j i) b = opened_more t k j i b

  pub begun_next : (t : ℕ) (v : Value) → IsValue tab v → Begun t tab.tasks v ↔ Begun (suc t) 0 v
  begun_next t (carried r) x = ((λ b. tt), λ b. tt)
  begun_next t (by r j i) x = opened_next t j i x.1

module _ (tab : Table) (F : Fits tab) where
  -- the instance that opens at a tick is the one of that tick
  pub opens_instance : (k i t : ℕ) → k < tab.tasks → opens tab k i ≡ t → i ≡ instance tab k t
  opens_instance k i t h e = sym (instance_is tab F k i t h (omega arith) (omega (arith, F.window k h)))

  -- v was there before the opening of task k at t, or it is what opens there
  pub begun_cases : (s t k : ℕ) (v : Value) → IsValue tab v → signal_of v ≡ s → Begun tab t (suc k) v → Begun tab t k v ⊎ ((v ≡ by s k (instance tab k t)) × (opens tab k (instance tab k t) ≡ t))
  begun_cases s t k (carried r) x z b = inl tt
  begun_cases s t k (by r j i) x z b =
      opened_each tab (λ j i. j < tab.tasks → Opened tab t k j i ⊎ ((by r j i ≡ by s k (instance tab k t)) × (opens tab k (instance tab k t) ≡ t))) t k
      (λ j i o h. inl o)
      (λ i e h. let n = opens_instance k i t h e in inr (ap (λ q. by q k i) z ∙ ap (by s k) n, subst (λ q. opens tab k q ≡ t) n e))
      j i b x.1

  -- of two values one was there when the other opened
  pub order : (u v : Value) → IsValue tab u → IsValue tab v → signal_of u ≡ signal_of v → (u ≡ v) ⊎ (Before tab u v ⊎ Before tab v u)
  order (carried r) (carried q) x y e = inl (ap carried e)
  order (carried r) (by q j i) x y e = inr (inl tt)
  order (by r l m) (carried q) x y e = inr (inr tt)
  order (by r l m) (by q j i) x y e =
      split (ltb (opens tab l m) (opens tab j i)) (λ a. inr (inl (inl (ltb-true (opens tab l m) (opens tab j i) a))))
      (λ a. split (ltb (opens tab j i) (opens tab l m)) (λ b. inr (inr (inl (ltb-true (opens tab j i) (opens tab l m) b))))
      (λ b.
      let o : opens tab l m ≡ opens tab j i = omega (arith, ltb-false (opens tab l m) (opens tab j i) a, ltb-false (opens tab j i) (opens tab l m) b) in
      split (ltb l j) (λ c. inr (inl (inr (o, ltb-true l j c))))
      (λ c. split (ltb j l) (λ d. inr (inr (inr (sym o, ltb-true j l d))))
      (λ d.
      let k : l ≡ j = omega (arith, ltb-false l j c, ltb-false j l d) in
      let n : m ≡ i = opens_instance l m (opens tab j i) x.1 o ∙ ap (λ z. instance tab z (opens tab j i)) k ∙ sym (opens_instance j i (opens tab j i) y.1 refl) in
      inl (ap (λ z. by z l m) e ∙ ap (λ z. by q z m) k ∙ ap (by q j) n)))))

  until_within : (v : Value) → IsValue tab v → until tab v ≤ hyper tab
  until_within v x =
      split (leb (until tab v) (hyper tab))
      (λ q. leb-true (until tab v) (hyper tab) q)
      (λ q. let z = live_within tab F v (hyper tab) x (opening_within v x, leb-false (until tab v) (hyper tab) q) in absurd (omega arith))
    where
      opening_within : (v : Value) → IsValue tab v → opening tab v ≤ hyper tab
      opening_within (carried r) x = zero-le
      opening_within (by r j i) x = omega (arith, F.window j x.1, closes_le tab F j i x.1 x.3)

module _ (tab : Table) (F : Fits tab) (E : Schedule) (s : ℕ) (y : s < tab.signals) where
  abbrev pub Reader : ℕ → ℕ → Type 0
  Reader j i = (j < tab.tasks) × T (tab.reads s j) × (i < instances tab j)

  -- the readers that have opened are sent to what they are bound to
  abbrev pub Sent : ℕ → ℕ → Type 0
  Sent t k = (j i : ℕ) → Opened tab t k j i → Reader j i → E.reader s j i ≡ element_of E (bound tab s (opens tab j i))

  -- each value that is there found its element free
  abbrev pub Free : ℕ → ℕ → Type 0
  Free t k = (u v : Value) → IsValue tab u → IsValue tab v → signal_of u ≡ s → signal_of v ≡ s → Begun tab t k v → Before tab u v → element_of E u ≡ element_of E v → until tab u ≤ opening tab v

  -- v is being written, or stands
  abbrev Standing : ℕ → Value → Type 0
  Standing t v = (t < closing tab v) ⊎ (bound tab s t ≡ v)

  -- element e is held up to h for a value that is there
  abbrev Holder : ℕ → ℕ → ℕ → ℕ → Type 0
  Holder t k e h = (v : Value) × IsValue tab v × (signal_of v ≡ s) × Begun tab t k v × (element_of E v ≡ e) × (Standing t v ⊎ (h ≡ until tab v))

  pub record Held (t k : ℕ) (held : List ℕ) : Type 0 where
    pub upto : (v : Value) → IsValue tab v → signal_of v ≡ s → Begun tab t k v → until tab v ≤ get_or held (element_of E v) 0
    pub holder : (e : ℕ) → (get_or held e 0 ≡ 0) ⊎ Holder t k e (get_or held e 0)

  -- at tick t, once the readers below k and the writers below l have opened
  pub record Kept (t k l : ℕ) (p : Pass) : Type 0 where
    pub size : length p.held ≡ most tab
    pub current : p.current ≡ element_of E (bound tab s t)
    pub reached : (j i : ℕ) → Opened tab t k j i → Reader j i → closing tab (bound tab s t) ≤ opens tab j i → closes tab j i ≤ p.reach
    pub reader : (p.reach ≡ 0) ⊎ ((j : ℕ) × (i : ℕ) × Opened tab t k j i × Reader j i × (closing tab (bound tab s t) ≤ opens tab j i) × (closes tab j i ≡ p.reach))
    pub exact : (p.right ≡ true) ↔ (Sent t k × Free t l)
    pub held : p.right ≡ true → Held t l p.held

  -- ---- openings

  -- a value that is being written or stands is live
  standing_live : (t k : ℕ) (v : Value) → t < hyper tab → Begun tab t k v → Standing t v → t < until tab v
  standing_live t k v h b (inr e) = subst (λ u. t < until tab u) e (live_bound tab F s t y h).1
  standing_live t k (carried r) h b (inl c) = absurd (omega arith)
  standing_live t k (by r j i) h b (inl c) = (live_writer tab F r j i t (begun_le tab t k (by r j i) b) c).1

  module _ (t k l : ℕ) (p : Pass) (h : t < hyper tab) (m : k < tab.tasks) where
    -- task k does not open at t as a reader, or as a writer
    pub no_reader : ((i : ℕ) → opens tab k i ≡ t → Reader k i → ⊥) → Kept t k l p → Kept t (suc k) l p
    no_reader f K = record {
      size = K.size;
      current = K.current;
      reached = opened_each tab (λ j i. Reader j i → closing tab (bound tab s t) ≤ opens tab j i → closes tab j i ≤ p.reach) t k K.reached (λ i e r. absurd (f i e r));
      reader = ⊎_elim (λ z. inl z) (λ (j, i, o, r, d, e). inr (j, i, opened_more tab t k j i o, r, d, e)) K.reader;
      exact = (
        (λ q. let g = K.exact.0 q in (opened_each tab (λ j i. Reader j i → E.reader s j i ≡ element_of E (bound tab s (opens tab j i))) t k g.0 (λ i e r. absurd (f i e r)), g.1)),
        λ g. K.exact.1 ((λ j i o. g.0 j i (opened_more tab t k j i o)), g.1),
      );
      held = K.held;
    }

    module _ (o : opens tab k (instance tab k t) ≡ t) where
      pub reader_opens_lem : T (tab.reads s k) → Kept t k l p → Kept t (suc k) l (reader_opens tab E s p k t)
      reader_opens_lem r K = record {
        size = K.size;
        current = K.current;
        reached = opened_each tab (λ j i. Reader j i → closing tab (bound tab s t) ≤ opens tab j i → closes tab j i ≤ (reader_opens tab E s p k t).reach) t k
            (λ j i a b d. omega (arith, K.reached j i a b d))
            (λ i e b d. rw (opens_instance tab F k i t m e) (omega arith));
        reader =
            split (leb p.reach c)
            (λ q. inr (k, instance tab k t, now, this, omega (arith, closing_le tab s t), omega (arith, leb-true p.reach c q)))
            (λ q. let z = leb-false p.reach c q in ⊎_elim (λ e. absurd (omega arith)) (λ (j, i, a, b, d, e). inr (j, i, opened_more tab t k j i a, b, d, omega arith)) K.reader);
        exact = (
          (λ q.
              let b = both p.right _ q in
              let g = K.exact.0 b.0 in (
                opened_each tab (λ j i. Reader j i → E.reader s j i ≡ element_of E (bound tab s (opens tab j i))) t k g.0
                    (λ i e a. rw (opens_instance tab F k i t m e, o) (eqb-true _ _ b.1 ∙ K.current)),
                g.1,
              )),
          λ g. and_is (K.exact.1 ((λ j i a. g.0 j i (opened_more tab t k j i a)), g.1))
              (eq-eqb _ _ (g.0 k (instance tab k t) now this ∙ ap (λ x. element_of E (bound tab s x)) o ∙ sym K.current)),
        );
        held = λ q. K.held (both p.right _ q).0;
      }
        where
          c : ℕ
          c = closes tab k (instance tab k t)

          now : Opened tab t (suc k) k (instance tab k t)
          now = inr (o, omega arith)

          this : Reader k (instance tab k t)
          this = (m, r, instance_lt tab F k t m h)

    pub no_writer : ((i : ℕ) → opens tab k i ≡ t → IsValue tab (by s k i) → ⊥) → Kept t l k p → Kept t l (suc k) p
    no_writer f K = record {
      size = K.size;
      current = K.current;
      reached = K.reached;
      reader = K.reader;
      exact = (
        (λ q. let g = K.exact.0 q in (g.0, λ u v x z a b c. g.1 u v x z a b (back v z b c))),
        λ g. K.exact.1 (g.0, λ u v x z a b c. g.1 u v x z a b (begun_more tab t k v c)),
      );
      held = λ q. let H = K.held q in record {
        upto = λ v x z b. H.upto v x z (back v x z b);
        holder = λ e. ⊎_elim (λ n. inl n) (λ (v, x, z, b, n, d). inr (v, x, z, begun_more tab t k v b, n, d)) (H.holder e);
      };
    }
      where
        back : (v : Value) → IsValue tab v → signal_of v ≡ s → Begun tab t (suc k) v → Begun tab t k v
        back v x z b =
            ⊎_elim (λ o. o)
            (λ e. absurd (f (instance tab k t) e.1 (subst (IsValue tab) e.0 x)))
            (begun_cases tab F s t k v x z b)

    -- an element is free for the value that opens exactly if each value that is there has ended or has another one
    module _ (o : opens tab k (instance tab k t) ≡ t) (w : T (tab.writes s k)) (low : element_of E (by s k (instance tab k t)) < most tab) where
      abbrev mine : Value
      mine = by s k (instance tab k t)

      mine_value : IsValue tab mine
      mine_value = (y, m, w, instance_lt tab F k t m h)

      mine_now : Begun tab t (suc k) mine
      mine_now = inr (o, omega arith)

      free_more : Free t k → Held t k p.held → get_or p.held (element_of E mine) 0 ≤ t → Free t (suc k)
      free_more g H n u v x z a b c =
          ⊎_elim
          (λ c. g u v x z a b c)
          (λ e. subst (λ v. Before tab u v → element_of E u ≡ element_of E v → until tab u ≤ opening tab v) (sym e.0)
          (λ d q. let r = H.upto u x a (subst (λ i. Begun tab i k u) o d) in
          let f : get_or p.held (element_of E u) 0 ≤ t = subst (λ i. get_or p.held i 0 ≤ t) (sym q) n in
          omega arith))
          (begun_cases tab F s t k v z b c)

      free_less : Free t (suc k) → Held t k p.held → get_or p.held (element_of E mine) 0 ≤ t
      free_less g H =
          ⊎_elim
          (λ z. omega arith)
          (λ (v, x, z, b, e, c).
          let d = g v mine x mine_value z refl mine_now (subst (λ i. Begun tab i k v) (sym o) b) e in
          ⊎_elim (λ a. let r = standing_live t k v h b a in absurd (omega arith)) (λ a. omega arith) c)
          (H.holder (element_of E mine))

      held_more : length p.held ≡ most tab → Held t k p.held → Held t (suc k) (set p.held (element_of E mine) never)
      held_more size H = record {
        upto = λ v x z b. split (eqb (element_of E v) (element_of E mine))
            (λ q. rw (eqb-true (element_of E v) (element_of E mine) q, get_or-set_same p.held (element_of E mine) never 0 (omega arith)) (omega (arith, until_within tab F v x, F.hyper_short)))
            (λ q. let n = eqb-false (element_of E v) (element_of E mine) q in
            rw (get_or-set_other p.held (element_of E mine) (element_of E v) never 0 n)
            (H.upto v x z (⊎_elim (λ c. c) (λ e. absurd (n (ap (element_of E) e.0))) (begun_cases tab F s t k v x z b))));
        holder = λ e. split (eqb e (element_of E mine))
            (λ q. inr (mine, mine_value, refl, mine_now, sym (eqb-true e (element_of E mine) q), inl (inl (omega (arith, F.window k m)))))
            (λ q. rw (get_or-set_other p.held (element_of E mine) e never 0 (eqb-false e (element_of E mine) q))
            (⊎_elim (λ n. inl n) (λ (v, x, z, b, n, d). inr (v, x, z, begun_more tab t k v b, n, d)) (H.holder e)));
      }

      pub writer_opens_lem : Kept t l k p → Kept t l (suc k) (writer_opens tab E s p k t)
      writer_opens_lem K = record {
        size = length-set p.held (element_of E mine) never ∙ K.size;
        current = K.current;
        reached = K.reached;
        reader = K.reader;
        exact = (
          (λ q.
              let b = both p.right _ q in
              let g = K.exact.0 b.0 in
              (g.0, free_more g.1 (K.held b.0) (leb-true _ t b.1))),
          λ g.
              let r = K.exact.1 (g.0, λ u v x z a b c. g.1 u v x z a b (begun_more tab t k v c)) in
              and_is r (le-leb _ t (free_less g.1 (K.held r))),
        );
        held = λ q. held_more K.size (K.held (both p.right _ q).0);
      }

  -- ---- closings

  -- what is written or stands at t does so at t + 1, but for the value that stood and is followed
  standing_next : (t : ℕ) (v : Value) → IsValue tab v → signal_of v ≡ s → Standing t v → (v ≡ bound tab s t) ⊎ Standing (suc t) v
  standing_next t v x z (inr e) = inl (sym e)
  standing_next t v x z (inl c) =
      split (eqb (closing tab v) (suc t))
      (λ q. inr (inr (subst (λ r. bound tab r (suc t) ≡ v) z (subst (λ c. bound tab (signal_of v) c ≡ v) (eqb-true (closing tab v) (suc t) q) (stands_closing tab F v x)))))
      (λ q. let n = eqb-false (closing tab v) (suc t) q in inr (inl (omega arith)))

  -- what is published by t was there before
  published_begun : (t : ℕ) (v : Value) → IsValue tab v → closing tab v ≤ t → Begun tab (suc t) 0 v
  published_begun t (carried r) x c = tt
  published_begun t (by r j i) x c = inl (omega (arith, F.window j x.1))

  -- the readers and the values that are there, at the end of a tick and at the start of the next
  sent_next : (t : ℕ) → Sent t tab.tasks ↔ Sent (suc t) 0
  sent_next t = (
    (λ g j i o r. g j i ((opened_next tab t j i r.0).1 o) r),
    λ g j i o r. g j i ((opened_next tab t j i r.0).0 o) r,
  )

  free_next : (t : ℕ) → Free t tab.tasks ↔ Free (suc t) 0
  free_next t = (
    (λ g u v x z a b c. g u v x z a b ((begun_next tab t v z).1 c)),
    λ g u v x z a b c. g u v x z a b ((begun_next tab t v z).0 c),
  )

  module _ (t : ℕ) (p : Pass) (h : t < hyper tab) (K : Kept t tab.tasks tab.tasks p) where
    abbrev stood : Value
    stood = bound tab s t

    stood_value : IsValue tab stood
    stood_value = bound_value tab F s y t (omega arith)

    exact_next : (p.right ≡ true) ↔ (Sent (suc t) 0 × Free (suc t) 0)
    exact_next = (
      (λ q. let g = K.exact.0 q in ((sent_next t).0 g.0, (free_next t).0 g.1)),
      λ g. K.exact.1 ((sent_next t).1 g.0, (free_next t).1 g.1),
    )

    pub nothing_closes : publisher tab s t ≡ none → Kept (suc t) 0 0 p
    nothing_closes n =
        let e : bound tab s (suc t) ≡ bound tab s t = bound_none tab s t n in
        record {
          size = K.size;
          current = rw e K.current;
          reached = λ j i o r c. K.reached j i ((opened_next tab t j i r.0).1 o) r (rw e at c);
          reader = rw e (⊎_elim (λ z. inl z) (λ (j, i, o, r, c, d). inr (j, i, (opened_next tab t j i r.0).0 o, r, c, d)) K.reader);
          exact = exact_next;
          held = λ q. let H = K.held q in record {
            upto = λ v x z b. H.upto v x z ((begun_next tab t v x).1 b);
            holder = λ d. ⊎_elim (λ z. inl z) (λ (v, x, z, b, a, c). inr (v, x, z, (begun_next tab t v x).0 b, a, ⊎_elim (λ f. inl (⊎_elim (λ g. inr (e ∙ sym g)) (λ g. g) (standing_next t v x z f))) (λ f. inr f) c)) (H.holder d);
          };
        }

    module _ (k : ℕ) (n : publisher tab s t ≡ some k) where
      -- the value that stood is followed at t + 1
      follows : after tab F stood stood_value ≡ suc t
      follows =
          let z = bound_signal tab s t in
          let c = closing_le tab s t in
          let a = (bound_between tab F stood stood_value t h).0 (ap (λ r. bound tab r t) z) in
          let b : ¬ (suc t < after tab F stood stood_value) = λ l. later l in
          omega arith
        where
          later : suc t < after tab F stood stood_value → ⊥
          later l =
              let c = closing_le tab s t in
              let b = next_le tab (signal_of stood) (hyper tab - closing tab stood) (closing tab stood) in
              let e = (bound_between tab F stood stood_value (suc t) (omega (arith, closing_within tab F stood stood_value))).1 (omega arith, l) in
              let f : by s k (instance tab k t) ≡ stood = sym (bound_some tab s t k n) ∙ ap (λ r. bound tab r (suc t)) (sym (bound_signal tab s t)) ∙ e in
              omega (arith, ap (closing tab) f, (publisher_some tab s t k n).2)

      -- so its life is known
      stood_until : until tab stood ≡ max (suc t) p.reach
      stood_until =
          let f = follows in
          let z = bound_signal tab s t in
          until_is tab F stood stood_value (max (suc t) p.reach) (omega arith)
          (λ j i (a, b, c, d, e). omega (arith, K.reached j i ((opened_next tab t j i a).1 (inl (omega arith))) (a, subst (λ r. T (tab.reads r j)) z b, c) d))
          (split (leb p.reach (suc t))
          (λ q. inl (omega (arith, leb-true p.reach (suc t) q)))
          (λ q. let l = leb-false p.reach (suc t) q in ⊎_elim (λ e. absurd (omega arith))
          (λ (j, i, o, r, d, e). inr (j, i, (r.0, subst (λ r. T (tab.reads r j)) (sym z) r.1, r.2, d, omega (arith, opened_le tab t tab.tasks j i o)), omega arith))
          K.reader))

      -- no other value of its element lasts longer
      outlasts : Free t tab.tasks → (v : Value) → IsValue tab v → signal_of v ≡ s → Begun tab t tab.tasks v → element_of E v ≡ element_of E stood → until tab v ≤ until tab stood
      outlasts g v x z b e =
          let q = bound_signal tab s t in
          ⊎_elim
          (λ f. rw f (omega arith))
          (λ f. ⊎_elim
          (λ f. omega (arith, g v stood x stood_value z q ((begun_next tab t stood stood_value).1 stood_begun) f e, live_begins tab F stood stood_value))
          (λ f. absurd (omega (arith, g stood v stood_value x q z b f (sym e), begun_le tab t tab.tasks v b, (live_bound tab F s t y h).1)))
          f)
          (order tab F v stood x stood_value (z ∙ sym q))
        where
          stood_begun : Begun tab (suc t) 0 stood
          stood_begun = published_begun t stood stood_value (closing_le tab s t)

      held_next : (low : element_of E stood < most tab) → p.right ≡ true → Held (suc t) 0 (set p.held p.current (max (suc t) p.reach))
      held_next low q =
          let H = K.held q in
          let size = K.size in
          let here = get_or-set_same p.held p.current (max (suc t) p.reach) 0 (omega (arith, K.current)) in
          record {
            upto = λ v x z b. split (eqb (element_of E v) p.current)
                (λ d. let e = eqb-true (element_of E v) p.current d in
                rw (e, here, ← stood_until) (outlasts (K.exact.0 q).1 v x z ((begun_next tab t v x).1 b) (e ∙ K.current)))
                (λ d. rw (get_or-set_other p.held p.current (element_of E v) (max (suc t) p.reach) 0 (eqb-false (element_of E v) p.current d))
                (H.upto v x z ((begun_next tab t v x).1 b)));
            holder = λ e. split (eqb e p.current)
                (λ d. let f = eqb-true e p.current d in
                inr (stood, stood_value, bound_signal tab s t, published_begun t stood stood_value (closing_le tab s t), sym (f ∙ K.current), inr (rw (f, here) (sym stood_until))))
                (λ d. let f = eqb-false e p.current d in
                rw (get_or-set_other p.held p.current e (max (suc t) p.reach) 0 f)
                (⊎_elim (λ z. inl z)
                (λ (v, x, z, b, a, c). inr (
                  v,
                  x,
                  z,
                  (begun_next tab t v x).0 b,
                  a,
                  ⊎_elim (λ c. inl (⊎_elim (λ g. absurd (f (sym a ∙ ap (element_of E) g ∙ sym K.current))) (λ g. g) (standing_next t v x z c))) (λ c. inr c) c,
                ))
                (H.holder e)));
          }

      pub writer_closes_lem : element_of E stood < most tab → Kept (suc t) 0 0 (writer_closes tab E s p k t)
      writer_closes_lem low =
          let e = bound_some tab s t k n in
          record {
            size = length-set p.held p.current (max (suc t) p.reach) ∙ K.size;
            current = rw e;
            reached = λ j i o r c. absurd (omega (arith, ap (closing tab) e, (publisher_some tab s t k n).2, opened_le tab t tab.tasks j i ((opened_next tab t j i r.0).1 o)));
            reader = inl refl;
            exact = exact_next;
            held = held_next low;
          }

  -- ---- the start

  pub at_start : Kept 0 0 0 (started tab E s)
  unfolding bound latest
  at_start = record {
    size = length-set (none_held (most tab)) 0 never ∙ length-replicate {A = ℕ} (most tab) 0;
    current = refl;
    reached = λ j i o. absurd (before j i o);
    reader = inl refl;
    exact = ((λ q. ((λ j i o. absurd (before j i o)), λ u v x z a b c f. absurd (none_begun u v c f))), λ g. refl);
    held = λ q. record { upto = upto; holder = holder };
  }
    where
      before : (j i : ℕ) → Opened tab 0 0 j i → ⊥
      before j i o = ⊎_elim (λ l. omega arith) (λ e. omega arith) o

      none_begun : (u v : Value) → Begun tab 0 0 v → Before tab u v → ⊥
      none_begun u (carried r) c f = f
      none_begun u (by r j i) c f = before j i c

      upto : (v : Value) → IsValue tab v → signal_of v ≡ s → Begun tab 0 0 v → until tab v ≤ get_or (set (none_held (most tab)) 0 never) (element_of E v) 0
      upto (carried r) x z b = omega (arith, until_within tab F (carried r) x, F.hyper_short)
      upto (by r j i) x z b = absurd (before j i b)

      holder : (e : ℕ) → (get_or (set (none_held (most tab)) 0 never) e 0 ≡ 0) ⊎ Holder 0 0 e (get_or (set (none_held (most tab)) 0 never) e 0)
      holder e =
          split (eqb e 0)
          (λ q. inr (carried s, y, refl, tt, sym (eqb-true e 0 q), inl (inr refl)))
          (λ q. inl (get_or-set_other (none_held (most tab)) 0 e never 0 (eqb-false e 0 q) ∙ nothing_held (most tab) e))
