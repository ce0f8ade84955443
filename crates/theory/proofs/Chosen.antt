-- The pass that takes at each opening the lowest element that is free then takes the elements of the plan. Assumes nothing.
use mathlib.Core.Bool.{Bool, true, false≢true}
use mathlib.Core.List.{List, []}
use mathlib.Core.Logic.{◌⊎◌, inl, inr, ⊎_elim}
use mathlib.Core.Path.{◌≡◌, refl, sym, ap, subst, ◌∙◌}
use Prim.Native.Nat.{ℕ, zero, suc, ◌+◌, ◌-◌, ◌≤◌, ◌<◌, zero-le}
use native.Mathlib.Nat.{not-suc-le-zero, le_of_suc-le-suc}
use native.Mathlib.Omega.{arith}
use lib.Dec.{T, leb, ltb, eqb}
use lib.ListN.{length, get_or, set, take, length-set, length-take, length-replicate, get_or-eq_default}
use lib.Seq.{get_or-set_same, get_or-set_other, get_or-take}
use borrow.Author.Tests.{leb-true, leb-false, ltb-true, ltb-false, lt-ltb, le-ltb, eqb-true, eqb-false}
use Rattle.rules.specs.Words.{total, times}
use Rattle.rules.specs.Windows.{Table, opens, closes, instance, instances, hyper}
use Rattle.rules.specs.Values.{Value, carried, by, signal_of, bound, opening, until, IsValue}
use Rattle.rules.specs.Table.{most_tasks, most_uses, Fits}
use Rattle.rules.specs.Schedule.{Schedule, most, element_of}
use Rattle.rules.specs.Plan.{busy, values_of, lives_of, plan}
use Rattle.rules.specs.Bytes.{Part, bf, wi, ri, free, writers_below, readers_below}
use Rattle.theory.specs.Promises.{value_of}
use Rattle.theory.specs.Sweep.{Pass, never, reader_opens, writer_opens, writer_closes}
use Rattle.theory.specs.Chosen.{uses_of, first_use, use_of, IsUse, Choice, free_element, taken, reads, takes, publishes, unchosen, chosen, ChoosesPlan, PlanChosen}
use Rattle.theory.proofs.Tests.{split, is, holds}
use Rattle.theory.proofs.Time.{instance_is, instance_lt, closes_le, publisher_some}
use Rattle.theory.proofs.Numbered.{element_at}
use Rattle.theory.proofs.Lowest.{lowest_one}
use Rattle.theory.proofs.Order.{value_of_lem, value_in, lives_length, life_of_lem, plan_order}
use Rattle.theory.proofs.Apart.{after_lower}
use Rattle.theory.proofs.Planned.{starts, numbered, plan_count, below, apart, binds}
use Rattle.theory.proofs.Seats.{plan_most}
use Rattle.theory.proofs.Sums.{total_upto, block_lt, block_one, uses_all}
use Rattle.theory.proofs.Untils.{first_lowest}
use Rattle.theory.proofs.Bound.{bound_signal, bound_value}
use Rattle.theory.proofs.Sweep.{Opened, Begun, Before, opened_each, opened_next, begun_le, begun_cases, begun_next, opens_instance, Kept, no_reader, reader_opens_lem, no_writer, writer_opens_lem, nothing_closes, writer_closes_lem, at_start}
use Rattle.theory.proofs.Swept.{Steps, passed, apart_free}

-- ---- uses in blocks one after the other

part_is : (part : ℕ → ℕ → ℕ → Part) (r q j k i m : ℕ) → r ≡ q → j ≡ k → i ≡ m → part r j i ≡ part q k m
part_is part r q j k i m a b c = ap (λ r. part r j i) a ∙ ap (λ j. part q j i) b ∙ ap (part q k) c

module _ (tab : Table) where
  -- the instances of task k, if it may
  abbrev users_of : (ℕ → Bool) → ℕ → ℕ
  users_of may k = times (may k) (instances tab k)

  in_block_lem : (may : ℕ → Bool) (k i : ℕ) → T (may k) → i < instances tab k → i < users_of may k
  in_block_lem may k i w h = rw (is (may k) w) h

  pub writer_lt : (s k i : ℕ) → k < tab.tasks → T (tab.writes s k) → i < instances tab k → writers_below tab s k + i < writers_below tab s tab.tasks
  unfolding writers_below
  writer_lt s k i m w h = block_lt (users_of (tab.writes s)) k i tab.tasks m (in_block_lem (tab.writes s) k i w h)

  pub reader_lt : (s k i : ℕ) → k < tab.tasks → T (tab.reads s k) → i < instances tab k → readers_below tab s k + i < readers_below tab s tab.tasks
  unfolding readers_below
  reader_lt s k i m w h = block_lt (users_of (tab.reads s)) k i tab.tasks m (in_block_lem (tab.reads s) k i w h)

  writer_one : (s j i k m : ℕ) → T (tab.writes s j) → i < instances tab j → T (tab.writes s k) → m < instances tab k → writers_below tab s j + i ≡ writers_below tab s k + m → (j ≡ k) × (i ≡ m)
  unfolding writers_below
  writer_one s j i k m a b c d e = block_one (users_of (tab.writes s)) j i k m (in_block_lem (tab.writes s) j i a b) (in_block_lem (tab.writes s) k m c d) e

  reader_one : (s j i k m : ℕ) → T (tab.reads s j) → i < instances tab j → T (tab.reads s k) → m < instances tab k → readers_below tab s j + i ≡ readers_below tab s k + m → (j ≡ k) × (i ≡ m)
  unfolding readers_below
  reader_one s j i k m a b c d e = block_one (users_of (tab.reads s)) j i k m (in_block_lem (tab.reads s) j i a b) (in_block_lem (tab.reads s) k m c d) e

  pub first_next : (s : ℕ) → first_use tab (suc s) ≡ first_use tab s + uses_of tab s
  unfolding first_use total
  first_next s = refl

  pub first_upto : (s r : ℕ) → s ≤ r → first_use tab s ≤ first_use tab r
  unfolding first_use
  first_upto s r h = total_upto (uses_of tab) s r h

  pub first_all : Fits tab → first_use tab tab.signals ≤ most_uses
  unfolding first_use
  first_all F = omega (arith, uses_all tab, F.few_uses)

  -- the uses of signal s stand together
  pub use_within : (s : ℕ) (x : Part) → IsUse tab s x → (first_use tab s ≤ use_of tab x) × (use_of tab x < first_use tab (suc s))
  use_within s (bf r) u = absurd u
  use_within s (wi r k i) (e, m, w, h) = rw e (omega arith, omega (arith, writer_lt s k i m w h, first_next s))
  use_within s (ri r k i) (e, m, w, h) = rw e (omega arith, omega (arith, reader_lt s k i m w h, first_next s))

  -- two uses at one place, by the number of their one signal
  of_signal : (s : ℕ) (x z : ℕ → ℕ → ℕ → Part) (r j i q k m : ℕ) → r ≡ s → q ≡ s → use_of tab (x r j i) ≡ use_of tab (z q k m) → use_of tab (x s j i) ≡ use_of tab (z s k m)
  of_signal s x z r j i q k m a f e = ap (λ r. use_of tab (x r j i)) (sym a) ∙ e ∙ ap (λ r. use_of tab (z r k m)) f

  -- and no two at one place
  use_one : (s : ℕ) (x z : Part) → IsUse tab s x → IsUse tab s z → use_of tab x ≡ use_of tab z → x ≡ z
  use_one s (bf r) z u v e = absurd u
  use_one s (wi r j i) (bf q) u v e = absurd v
  use_one s (ri r j i) (bf q) u v e = absurd v
  use_one s (wi r j i) (wi q k m) (a, b, c, d) (f, g, h, l) e =
      let z = of_signal s wi wi r j i q k m a f e in
      let o = writer_one s j i k m c d h l (omega arith) in
      part_is wi r q j k i m (a ∙ sym f) o.0 o.1
  use_one s (ri r j i) (ri q k m) (a, b, c, d) (f, g, h, l) e =
      let z = of_signal s ri ri r j i q k m a f e in
      let o = reader_one s j i k m c d h l (omega arith) in
      part_is ri r q j k i m (a ∙ sym f) o.0 o.1
  use_one s (wi r j i) (ri q k m) (a, b, c, d) (f, g, h, l) e = let z = of_signal s wi ri r j i q k m a f e in absurd (omega (arith, writer_lt s j i b c d))
  use_one s (ri r j i) (wi q k m) (a, b, c, d) (f, g, h, l) e = let z = of_signal s ri wi r j i q k m a f e in absurd (omega (arith, writer_lt s k m g h l))

  -- one more is stored
  store : (E : Schedule) (s : ℕ) (uses : List ℕ) (x : Part) (v : ℕ) → use_of tab x < length uses → IsUse tab s x → v ≡ free E x
      → (z : Part) → IsUse tab s z → (get_or uses (use_of tab z) 0 ≡ free E z) ⊎ (z ≡ x) → get_or (set uses (use_of tab x) v) (use_of tab z) 0 ≡ free E z
  store E s uses x v h u e z w c =
      split (eqb (use_of tab z) (use_of tab x))
      (λ q. let n = eqb-true (use_of tab z) (use_of tab x) q in
      rw (n, get_or-set_same uses (use_of tab x) v 0 h) (e ∙ ap (free E) (sym (use_one s z x w u n))))
      (λ q. let n = eqb-false (use_of tab z) (use_of tab x) q in
      rw (get_or-set_other uses (use_of tab x) (use_of tab z) v 0 n) (⊎_elim (λ r. r) (λ r. absurd (n (ap (use_of tab) r))) c))

-- ---- the lowest free element

-- it is not held past t unless it is the last, and all below it are
pub free_is : (tab : Table) (held : List ℕ) (t e : ℕ) → e < most tab → (e < most tab - 1 → get_or held e 0 ≤ t) → ((d : ℕ) → d < e → t < get_or held d 0) → free_element tab held t ≡ e
free_is tab held t e h f g =
    lowest_one (λ e. ltb t (get_or (take (most tab - 1) held) e 0)) (free_element tab held t) e
    (first_lowest (take (most tab - 1) held) t)
    (record {
      free = split (ltb e (most tab - 1))
          (λ q. let l = ltb-true e (most tab - 1) q in rw (get_or-take (most tab - 1) held e 0 l) (le-ltb t (get_or held e 0) (f l)))
          (λ q. let n = ltb-false e (most tab - 1) q in
          rw (get_or-eq_default (take (most tab - 1) held) 0 {n = e} (omega (arith, length-take (most tab - 1) held))) (le-ltb t 0 zero-le));
      taken = λ d q. rw (get_or-take (most tab - 1) held d 0 (omega arith)) (lt-ltb t (get_or held d 0) (g d q));
    })

-- ---- the plan's elements

module _ (tab : Table) (F : Fits tab) (s : ℕ) (y : s < tab.signals) where
  abbrev E : Schedule
  E = plan tab

  plan_low : (v : Value) → IsValue tab v → signal_of v ≡ s → element_of E v < most tab
  plan_low v x e = omega (arith, below tab F v x, ap (plan tab).count e, plan_most tab F s y)

  -- plan order is the order in which values open
  before_in_order : (i j : ℕ) → i < j → j < length (values_of tab s) → Before tab (value_of (values_of tab s) i) (value_of (values_of tab s) j)
  before_in_order i zero p h = absurd (not-suc-le-zero p)
  before_in_order zero (suc j) p h = let (k, m, e, x) = (plan_order tab F s y).only j (le_of_suc-le-suc h) in rw e tt
  before_in_order (suc i) (suc j) p h =
      let O = plan_order tab F s y in
      let (l, n, d, w) = O.only i (omega (arith, le_of_suc-le-suc p, le_of_suc-le-suc h)) in
      let (k, m, e, x) = O.only j (le_of_suc-le-suc h) in
      rw (d, e) (rw (d, e) at (O.order i j (le_of_suc-le-suc p) (le_of_suc-le-suc h)))

  -- each element below a value's own holds a value that was there when it opened, and is live then
  lower_live : (v : Value) → IsValue tab v → signal_of v ≡ s → (d : ℕ) → d < element_of E v
      → (u : Value) × IsValue tab u × (signal_of u ≡ s) × Before tab u v × (element_of E u ≡ d) × (opening tab v < until tab u)
  unfolding busy
  lower_live v x z d h =
      let (j, g, e) = value_in tab F s y v x z in
      let n = lives_length tab F s y in
      let l : d < element_of E (value_of (values_of tab s) j) = rw e h in
      ⊎_elim
      (λ b. absurd (false≢true b))
      (λ (i, a, b, c).
      let p : i < length (values_of tab s) = omega arith in
      let w = value_of_lem tab F s y i p in
      let q = rw (life_of_lem tab F s y i p, life_of_lem tab F s y j g) at c in
      (value_of (values_of tab s) i, w.0, w.1, subst (Before tab (value_of (values_of tab s) i)) e (before_in_order i j a g), numbered tab F s y i p ∙ ap (λ ps. element_at ps i) (starts tab s) ∙ b, subst (λ v. opening tab v < until tab (value_of (values_of tab s) i)) e q.1))
      (after_lower [] (lives_of tab s) j d (omega arith) (rw (numbered tab F s y j g, starts tab s) at l))

  -- the check's pass over the plan meets no mistake
  right : (t k l : ℕ) (p : Pass) → Kept tab F E s y t k l p → p.right ≡ true
  right t k l p K =
      K.exact.1 ((λ j i o r. binds tab F s j i), apart_free tab F E s y (λ u v t x z a b m n e. apart tab F u v t x z (a ∙ sym b) m n e) t l)

  abbrev pass_of : Choice → Pass
  pass_of c = record { right = true; held = c.held; current = c.current; reach = c.reach }

  -- an instance that has opened did so before task k at t, or is the one that opens there
  opened_cases : (t k j i : ℕ) → k < tab.tasks → Opened tab t (suc k) j i → Opened tab t k j i ⊎ ((j ≡ k) × (i ≡ instance tab k t) × (opens tab k (instance tab k t) ≡ t))
  opened_cases t k j i m o =
      opened_each tab (λ j i. Opened tab t k j i ⊎ ((j ≡ k) × (i ≡ instance tab k t) × (opens tab k (instance tab k t) ≡ t))) t k
      (λ j i o. inl o)
      (λ i e. let n = opens_instance tab F k i t m e in inr (refl, n, subst (λ i. opens tab k i ≡ t) n e))
      j i o

  -- so a use of an instance that has opened was made before, or is made there
  made_cases : (part : ℕ → ℕ → ℕ → Part) (may : ℕ → Bool) (t k r j i : ℕ) → k < tab.tasks → r ≡ s → T (may j) → Opened tab t (suc k) j i
      → Opened tab t k j i ⊎ ((part r j i ≡ part s k (instance tab k t)) × (opens tab k (instance tab k t) ≡ t) × T (may k))
  made_cases part may t k r j i m e w o =
      ⊎_elim (λ o. inl o)
      (λ (a, b, c). inr (part_is part r s j k i (instance tab k t) e a b, c, subst (λ j. T (may j)) a w))
      (opened_cases t k j i m o)

  -- use x has been made
  abbrev Done : ℕ → ℕ → ℕ → Part → Type 0
  Done t k l (bf r) = ⊥
  Done t k l (wi r j i) = Opened tab t l j i
  Done t k l (ri r j i) = Opened tab t k j i

  read_cases : (t k l : ℕ) (x : Part) → k < tab.tasks → IsUse tab s x → Done t (suc k) l x
      → Done t k l x ⊎ ((x ≡ ri s k (instance tab k t)) × (opens tab k (instance tab k t) ≡ t) × T (tab.reads s k))
  read_cases t k l (bf r) m u d = absurd d
  read_cases t k l (wi r j i) m u d = inl d
  read_cases t k l (ri r j i) m u d = made_cases ri (tab.reads s) t k r j i m u.0 u.2 d

  write_cases : (t k l : ℕ) (x : Part) → k < tab.tasks → IsUse tab s x → Done t l (suc k) x
      → Done t l k x ⊎ ((x ≡ wi s k (instance tab k t)) × (opens tab k (instance tab k t) ≡ t) × T (tab.writes s k))
  write_cases t k l (bf r) m u d = absurd d
  write_cases t k l (ri r j i) m u d = inl d
  write_cases t k l (wi r j i) m u d = made_cases wi (tab.writes s) t k r j i m u.0 u.2 d

  done_next : (t : ℕ) (x : Part) → IsUse tab s x → Done (suc t) 0 0 x → Done t tab.tasks tab.tasks x
  done_next t (bf r) u d = d
  done_next t (wi r j i) u d = (opened_next tab t j i u.1).1 d
  done_next t (ri r j i) u d = (opened_next tab t j i u.1).1 d

  -- the lowest element that is not held is the plan's
  module _ (t k l : ℕ) (c : Choice) (h : t < hyper tab) (m : k < tab.tasks) (o : opens tab k (instance tab k t) ≡ t) (w : T (tab.writes s k)) (K : Kept tab F E s y t l k (pass_of c)) where
    abbrev mine : Value
    mine = by s k (instance tab k t)

    mine_value : IsValue tab mine
    mine_value = (y, m, w, instance_lt tab F k t m h)

    written : Kept tab F E s y t l (suc k) (writer_opens tab E s (pass_of c) k t)
    written = writer_opens_lem tab F E s y t k l (pass_of c) h m o w (plan_low mine mine_value refl) K

    not_held : get_or c.held (element_of E mine) 0 ≤ t
    not_held = leb-true _ t (right t l (suc k) (writer_opens tab E s (pass_of c) k t) written)

    choice_is : free_element tab c.held t ≡ E.writer s k (instance tab k t)
    choice_is = free_is tab c.held t (element_of E mine) (plan_low mine mine_value refl) (λ l. not_held) lower_held
      where
        lower_held : (d : ℕ) → d < element_of E mine → t < get_or c.held d 0
        lower_held d q =
            let (u, x, z, b, e, n) = lower_live mine mine_value refl d q in
            let g = (K.held refl).upto u x z (subst (λ t. Begun tab t k u) o b) in
            omega (arith, ap (λ d. get_or c.held d 0) e)

  -- ---- moment by moment

  module _ (before : List ℕ) where
    pub record Follows (t k l : ℕ) (c : Choice) : Type 0 where
      pub pass : Kept tab F E s y t k l (pass_of c)
      pub width : length c.own ≡ most_tasks
      pub own : (j i : ℕ) → Opened tab t l j i → j < tab.tasks → T (tab.writes s j) → t < closes tab j i → get_or c.own j 0 ≡ E.writer s j i
      pub above : (v : Value) → IsValue tab v → signal_of v ≡ s → Begun tab t l v → element_of E v < c.count
      pub reached : (v : Value) × IsValue tab v × (signal_of v ≡ s) × (c.count ≡ suc (element_of E v))
      pub size : length c.uses ≡ length before
      pub done : (x : Part) → IsUse tab s x → Done t k l x → get_or c.uses (use_of tab x) 0 ≡ free E x
      pub outside : (u : ℕ) → (u < first_use tab s) ⊎ (first_use tab (suc s) ≤ u) → get_or c.uses u 0 ≡ get_or before u 0

    outside_store : (uses : List ℕ) (x : Part) (v : ℕ) → IsUse tab s x → ((u : ℕ) → (u < first_use tab s) ⊎ (first_use tab (suc s) ≤ u) → get_or uses u 0 ≡ get_or before u 0)
        → (u : ℕ) → (u < first_use tab s) ⊎ (first_use tab (suc s) ≤ u) → get_or (set uses (use_of tab x) v) u 0 ≡ get_or before u 0
    outside_store uses x v i f u c =
        let (a, b) = use_within tab s x i in
        let n : ¬ (u ≡ use_of tab x) = λ e. ⊎_elim (λ l. omega arith) (λ l. omega arith) c in
        rw (get_or-set_other uses (use_of tab x) u v 0 n) (f u c)

    follows_start : Follows 0 0 0 (unchosen tab s before)
    follows_start = record {
      pass = at_start tab F E s y;
      width = length-replicate {A = ℕ} most_tasks 0;
      own = λ j i o. absurd (none j i o);
      above = above;
      reached = (carried s, y, refl, refl);
      size = refl;
      done = done;
      outside = λ u c. refl;
    }
      where
        none : (j i : ℕ) → Opened tab 0 0 j i → ⊥
        none j i o = ⊎_elim (λ l. omega arith) (λ e. omega arith) o

        above : (v : Value) → IsValue tab v → signal_of v ≡ s → Begun tab 0 0 v → element_of E v < 1
        above (carried r) x z b = omega arith
        above (by r j i) x z b = absurd (none j i b)

        done : (x : Part) → IsUse tab s x → Done 0 0 0 x → get_or before (use_of tab x) 0 ≡ free E x
        done (bf r) u d = absurd d
        done (wi r j i) u d = absurd (none j i d)
        done (ri r j i) u d = absurd (none j i d)

    module _ (room : length before ≡ most_uses) where
      has_room : (uses : List ℕ) (x : Part) → length uses ≡ length before → IsUse tab s x → use_of tab x < length uses
      has_room uses x e u = omega (arith, use_within tab s x u, first_upto tab (suc s) tab.signals y, first_all tab F)

      followed : Steps tab s (reads tab s) (takes tab s) (publishes tab s) Follows
      followed = record {
        no_reader = λ t k l c h m f K. record {
          pass = no_reader tab F E s y t k l (pass_of c) h m (λ i e x. f i e x.1) K.pass;
          width = K.width;
          own = K.own;
          above = K.above;
          reached = K.reached;
          size = K.size;
          done = λ x u d. ⊎_elim (λ d. K.done x u d) (λ (a, b, r). absurd (f (instance tab k t) b r)) (read_cases t k l x m u d);
          outside = K.outside;
        };
        reader = λ t k l c h m o r K.
            let K' = reader_opens_lem tab F E s y t k l (pass_of c) h m o r K.pass in
            let e = right t (suc k) l (reader_opens tab E s (pass_of c) k t) K' in
            let this : IsUse tab s (ri s k (instance tab k t)) = (refl, m, r, instance_lt tab F k t m h) in
            record {
              pass = subst (λ b. Kept tab F E s y t (suc k) l (record { right = b; held = c.held; current = c.current; reach = (reader_opens tab E s (pass_of c) k t).reach })) e K';
              width = K.width;
              own = K.own;
              above = K.above;
              reached = K.reached;
              size = length-set c.uses (use_of tab (ri s k (instance tab k t))) c.current ∙ K.size;
              done = λ x u d. store tab E s c.uses (ri s k (instance tab k t)) c.current (has_room c.uses (ri s k (instance tab k t)) K.size this) this
                  (sym (eqb-true _ _ e)) x u
                  (⊎_elim (λ d. inl (K.done x u d)) (λ q. inr q.0) (read_cases t k l x m u d));
              outside = outside_store c.uses (ri s k (instance tab k t)) c.current this K.outside;
            };
        no_writer = λ t k l c h m f K. record {
          pass = no_writer tab F E s y t k l (pass_of c) h m (λ i e x. f i e x.2) K.pass;
          width = K.width;
          own = λ j i o q w z. ⊎_elim (λ o. K.own j i o q w z) (λ (a, b, d). absurd (f (instance tab k t) d (subst (λ j. T (tab.writes s j)) a w))) (opened_cases t k j i m o);
          above = λ v x z b. ⊎_elim (λ b. K.above v x z b) (λ (a, d). absurd (f (instance tab k t) d (subst (IsValue tab) a x).2)) (begun_cases tab F s t k v x z b);
          reached = K.reached;
          size = K.size;
          done = λ x u d. ⊎_elim (λ d. K.done x u d) (λ (a, b, r). absurd (f (instance tab k t) b r)) (write_cases t k l x m u d);
          outside = K.outside;
        };
        writer = λ t k l c h m o w K. writer_follows t k l c h m o w K;
        silent = λ t c h n K. record {
          pass = nothing_closes tab F E s y t (pass_of c) h K.pass n;
          width = K.width;
          own = λ j i o q w z. K.own j i ((opened_next tab t j i q).1 o) q w (omega arith);
          above = λ v x z b. K.above v x z ((begun_next tab t v x).1 b);
          reached = K.reached;
          size = K.size;
          done = λ x u d. K.done x u (done_next t x u d);
          outside = K.outside;
        };
        published = λ t k c h n K.
            let (m, w, q) = publisher_some tab s t k n in
            let K' = writer_closes_lem tab F E s y t (pass_of c) h K.pass k n (plan_low (bound tab s t) (bound_value tab F s y t (omega arith)) (bound_signal tab s t)) in
            let e = K.own k (instance tab k t) ((opened_next tab t k (instance tab k t) m).1 (inl (omega (arith, F.window k m)))) m (holds w) (omega arith) in
            record {
              pass = subst (λ e. Kept tab F E s y (suc t) 0 0 (record { right = true; held = (writer_closes tab E s (pass_of c) k t).held; current = e; reach = 0 })) (sym e) K';
              width = K.width;
              own = λ j i o q w z. K.own j i ((opened_next tab t j i q).1 o) q w (omega arith);
              above = λ v x z b. K.above v x z ((begun_next tab t v x).1 b);
              reached = K.reached;
              size = K.size;
              done = λ x u d. K.done x u (done_next t x u d);
              outside = K.outside;
            };
      }
        where
          writer_follows : (t k l : ℕ) (c : Choice) → t < hyper tab → k < tab.tasks → opens tab k (instance tab k t) ≡ t → T (tab.writes s k) → Follows t l k c → Follows t l (suc k) (takes tab s c k t)
          writer_follows t k l c h m o w K =
              let K' = written t k l c h m o w K.pass in
              let r = right t l (suc k) (writer_opens tab E s (pass_of c) k t) K' in
              let g = E.writer s k (instance tab k t) in
              let v = mine_value t k l c h m o w K.pass in
              let this : IsUse tab s (wi s k (instance tab k t)) = (refl, m, w, instance_lt tab F k t m h) in
              subst (λ e. Follows t l (suc k) (taken c (use_of tab (wi s k (instance tab k t))) k e)) (sym (choice_is t k l c h m o w K.pass))
              (record {
                pass = subst (λ b. Kept tab F E s y t l (suc k) (record { right = b; held = set c.held g never; current = c.current; reach = c.reach })) r K';
                width = length-set c.own k g ∙ K.width;
                own = λ j i p q w z. split (eqb j k)
                    (λ n. let d = eqb-true j k n in
                    let a : i ≡ instance tab k t = sym (instance_is tab F j i t q (omega (arith, begun_le tab t (suc k) (by s j i) p)) z) ∙ ap (λ j. instance tab j t) d in
                    rw (d, a, get_or-set_same c.own k g 0 (omega (arith, K.width, F.few_tasks))))
                    (λ n. let d = eqb-false j k n in
                    rw (get_or-set_other c.own k j g 0 d) (K.own j i (⊎_elim (λ p. p) (λ p. absurd (d p.0)) (opened_cases t k j i m p)) q w z));
                above = λ u x z b. ⊎_elim (λ b. omega (arith, K.above u x z b)) (λ (a, d). omega (arith, ap (element_of E) a)) (begun_cases tab F s t k u x z b);
                reached = split (leb c.count (suc g))
                    (λ n. (by s k (instance tab k t), v, refl, omega (arith, leb-true c.count (suc g) n)))
                    (λ n. let (u, x, z, d) = K.reached in (u, x, z, omega (arith, leb-false c.count (suc g) n)));
                size = length-set c.uses (use_of tab (wi s k (instance tab k t))) g ∙ K.size;
                done = λ x u d. store tab E s c.uses (wi s k (instance tab k t)) g (has_room c.uses (wi s k (instance tab k t)) K.size this) this refl x u
                    (⊎_elim (λ d. inl (K.done x u d)) (λ q. inr q.0) (write_cases t k l x m u d));
                outside = outside_store c.uses (wi s k (instance tab k t)) g this K.outside;
              })

      -- ---- at the end

      pub chooses_plan : ChoosesPlan tab s before
      unfolding chosen
      chooses_plan =
          let K = passed tab s (reads tab s) (takes tab s) (publishes tab s) F y Follows followed (unchosen tab s before) follows_start in
          let (v, x, z, e) = K.reached in
          let low = plan_count tab F s y (chosen tab s before).count (λ v x z. K.above v x z (all v x)) in
          let high = below tab F v x in
          record {
            elements = record { size = K.size; right = λ x u. K.done x u (made x u); outside = K.outside };
            count = omega (arith, ap (plan tab).count z);
          }
        where
          ends : (k i : ℕ) → k < tab.tasks → i < instances tab k → opens tab k i < hyper tab
          ends k i h l = omega (arith, F.window k h, closes_le tab F k i h l)

          all : (v : Value) → IsValue tab v → Begun tab (hyper tab) 0 v
          all (carried r) x = tt
          all (by r j i) x = inl (ends j i x.1 x.3)

          made : (x : Part) → IsUse tab s x → Done (hyper tab) 0 0 x
          made (bf r) u = absurd u
          made (wi r j i) u = inl (ends j i u.1 u.3)
          made (ri r j i) u = inl (ends j i u.1 u.3)

pub plan_chosen : (tab : Table) → PlanChosen tab
plan_chosen tab F s y uses room = chooses_plan tab F s y uses room
