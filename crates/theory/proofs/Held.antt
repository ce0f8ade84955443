-- What the machine holds, in any sound layout: each live value's place has what the value holds by the meaning. Assumes nothing.
use Prim.Native.Nat.{ℕ, zero, suc, ◌+◌, ◌*◌, ◌≤◌, ◌<◌}
use mathlib.Core.Path.{◌≡◌, refl, sym, ap, ap₂, ◌∙◌, subst}
use mathlib.Core.Bool.{true, ◌&&◌, cond}
use mathlib.Core.List.{List, [], ◌∷◌}
use mathlib.Core.Logic.{◌⊎◌, inl, inr}
use mathlib.Core.Option.{some}
use native.Mathlib.Omega.{arith}
use native.Mathlib.Nat.{zero-mul}
use lib.Dec.{eqb, ltb, leb}
use lib.ListN.{get_or, replicate, length-replicate}
use borrow.Author.Tests.{eqb-true, eqb-false, ltb-true, ltb-false, leb-true, leb-false, eq-eqb}
use Rattle.rules.specs.Words.{maybe}
use Rattle.rules.specs.Windows.{Table, opens, instance, is_open, instances, hyper}
use Rattle.rules.specs.Values.{Value, carried, by, signal_of, publisher, opens_at, latest, bound, opening, closing, IsValue}
use Rattle.rules.specs.Table.{Fits}
use Rattle.rules.specs.Schedule.{room}
use Rattle.rules.specs.Plan.{task_of}
use Rattle.rules.specs.Meaning.{Content, Call, step, read, write, now, default_of, written, published, value_at}
use Rattle.rules.specs.Stores.{Memory, Place, nowhere, get, put, move, fill}
use Rattle.rules.specs.Machine.{State, memory, each, Layout, openings, opened, loaded, closed, copied, stepped, stored}
use Rattle.theory.specs.Places.{Sized, Inside, Apart}
use Rattle.theory.specs.Sound.{Carries, Sound}
use Rattle.theory.proofs.Tests.{split, split_option, both, is, holds, not_both}
use Rattle.theory.proofs.Hyper.{hyper_pos}
use Rattle.theory.proofs.Time.{open_true, open_is, open_shift, instance_is, instance_lt, start_shift}
use Rattle.theory.proofs.Bound.{bound_none, bound_some, bound_value, closing_le}
use Rattle.theory.proofs.Values.{content, value_bound, value_same, value_closing, value_write, written_step, written_read, written_now, written_other, written_before}
use Rattle.theory.proofs.Reading.{open_instance, close_instance}
use Rattle.theory.proofs.Loops.{loop_keeps, loop_turn, sweep_keeps, sweep_turn}
use Rattle.theory.proofs.Memory.{nowhere_apart, somewhere_apart, put_other, put_sized, put_same}

pub getD_each : {A : Type 0} (n : ℕ) (f : ℕ → A) (i : ℕ) (d : A) → i < n → get_or (each n f) i d ≡ f i
getD_each zero f i d h = absurd (omega arith)
getD_each (suc n) f zero d h = refl
getD_each (suc n) f (suc i) d h = getD_each n (λ k. f (suc k)) i d (omega arith)

-- ---- stores leave the size

module _ (tab : Table) (L : Layout) where
  -- task k opens its place of signal s
  abbrev begins : ℕ → ℕ → ℕ → Memory → Memory
  begins t k s x = cond (opens_at tab t s k) (put x (L.place (by s k (instance tab k t))) (default_of tab s)) x

  begins_sized : (t k s : ℕ) (x : Memory) → Sized tab x → Sized tab (begins t k s x)
  begins_sized t k s x z = split (opens_at tab t s k) (λ e. rw e (put_sized tab x (L.place (by s k (instance tab k t))) (default_of tab s) z)) (λ e. rw e z)

  pub openings_sized : (t : ℕ) (m : Memory) → Sized tab m → Sized tab (openings tab L t m)
  unfolding openings fill
  openings_sized t m z = sweep_keeps tab (Sized tab) (begins t) m (λ k s x h j. begins_sized t k s x) z

  pub copied_sized : (st : State) (m : Memory) → Sized tab m → Sized tab (copied tab L st m)
  unfolding copied
  copied_sized st m z = loop_keeps (Sized tab) tab.signals _ m (λ s x j. put_sized tab x (L.place (carried s)) (get x (closed tab L st s))) z

-- ---- the invariant

-- what an open instance of the hyper-period number q holds: the last content written in its window, else the default
abbrev pub draft : Table → ℕ → List Call → ℕ → ℕ → ℕ → Content
draft tab q h s k i = maybe (written tab h s k (q * instances tab k + i)) (default_of tab s) (λ c. c)

pub record Held (tab : Table) (L : Layout) (Live : Value → ℕ → Type 0) (h : List Call) (st : State) : Type 0 where
  pub round : ℕ
  pub time : now h ≡ round * hyper tab + st.tick
  pub inside : st.tick < hyper tab
  pub sized : Sized tab (memory st)
  pub last : (s : ℕ) → s < tab.signals → get_or st.last s nowhere ≡ L.place (bound tab s st.tick)
  pub ended : (v : Value) → IsValue tab v → Live v st.tick → closing tab v ≤ st.tick → get (memory st) (L.place v) ≡ content tab round h v
  pub going : (s k i : ℕ) → IsValue tab (by s k i) → is_open tab k i st.tick ≡ true → Live (by s k i) st.tick → get (memory st) (L.place (by s k i)) ≡ draft tab round h s k i

module _ (tab : Table) (F : Fits tab) (L : Layout) (Live : Value → ℕ → Type 0) (S : Sound tab L Live) where
  -- a window has some length
  longer : (v : Value) (t : ℕ) → IsValue tab v → closing tab v ≤ suc t → opening tab v ≤ t
  longer (carried s) t y h = omega arith
  longer (by s k i) t y h = omega (arith, F.window k y.1)

  -- a carried value that is live has a place
  carries : (s t : ℕ) → s < tab.signals → Live (carried s) t → Carries L s
  carries s t j p e = subst (Inside tab) e (S.seated (carried s) t j p)

  live_same : (m : Memory) (v : Value) (t : ℕ) (c : Content) → Sized tab m → IsValue tab v → Live v t → get (put m (L.place v) c) (L.place v) ≡ c
  live_same m v t c z y p = put_same tab m (L.place v) c z (S.seated v t y p)

  -- what a window's place is set to disturbs no other live value, wherever that place is
  window_other : (m : Memory) (s k i t : ℕ) (v : Value) (c : Content) → IsValue tab (by s k i) → is_open tab k i t ≡ true → IsValue tab v → Live v t → (by s k i ≡ v → ⊥)
      → get (put m (L.place (by s k i)) c) (L.place v) ≡ get m (L.place v)
  window_other m s k i t v c x o y q f = put_other m (L.place (by s k i)) (L.place v) c (go (S.window_live s k i t x o))
    where
      go : (L.place (by s k i) ≡ nowhere) ⊎ Live (by s k i) t → Apart (L.place (by s k i)) (L.place v)
      go (inl e) = nowhere_apart (L.place (by s k i)) (L.place v) e
      go (inr p) = S.apart (by s k i) v t x y p q f

  -- ---- openings

  module _ (t : ℕ) (inside : t < hyper tab) (m : Memory) where
    -- a writer that opens at t
    opener : (s k : ℕ) → s < tab.signals → k < tab.tasks → opens_at tab t s k ≡ true
        → IsValue tab (by s k (instance tab k t)) × (is_open tab k (instance tab k t) t ≡ true) × (opens tab k (instance tab k t) ≡ t)
    unfolding opens_at
    opener s k j h o =
        let b = both (tab.writes s k) (eqb (opens tab k (instance tab k t)) t) o in
        let e = eqb-true (opens tab k (instance tab k t)) t b.1 in
        ((j, h, holds b.0, instance_lt tab F k t h inside), open_is tab k (instance tab k t) t (omega arith) (omega (arith, F.window k h)), e)

    -- another's opening leaves what is live
    begins_other : (k s : ℕ) (x : Memory) (v : Value) → k < tab.tasks → s < tab.signals → IsValue tab v → Live v t
        → (opens tab k (instance tab k t) ≡ t → by s k (instance tab k t) ≡ v → ⊥) → get (begins tab L t k s x) (L.place v) ≡ get x (L.place v)
    begins_other k s x v h j y p f =
        split (opens_at tab t s k)
        (λ e. let o = opener s k j h e in rw e (window_other x s k (instance tab k t) t v (default_of tab s) o.0 o.1 y p (f o.2)))
        (λ e. rw e)

    open_stays : (v : Value) → IsValue tab v → Live v t → ((s k : ℕ) → k < tab.tasks → opens tab k (instance tab k t) ≡ t → by s k (instance tab k t) ≡ v → ⊥)
        → get (openings tab L t m) (L.place v) ≡ get m (L.place v)
    unfolding openings fill
    open_stays v y p f =
        sweep_keeps tab (λ x. get x (L.place v) ≡ get m (L.place v)) (begins tab L t) m (λ k s x h j e. begins_other k s x v h j y p (f s k h) ∙ e) refl

    open_begins : (s k i : ℕ) → Sized tab m → IsValue tab (by s k i) → Live (by s k i) t → opens tab k i ≡ t → get (openings tab L t m) (L.place (by s k i)) ≡ default_of tab s
    unfolding openings fill opens_at
    open_begins s k i z y p e =
        let n = instance_is tab F k i t y.1 (omega arith) (omega (arith, F.window k y.1)) in
        sweep_turn tab (Sized tab) (λ x. get x (L.place (by s k i)) ≡ default_of tab s) (begins tab L t) m k s y.1 y.0
        (λ l r x h j f. begins_sized tab L t l r x)
        (λ x w. rw (n, is (tab.writes s k) y.2, eq-eqb (opens tab k i) t e) (live_same x (by s k i) t (default_of tab s) w y p))
        (λ l r x h j f w. begins_other l r x (by s k i) h j y p (λ o c. f (ap task_of c) (ap signal_of c)) ∙ w)
        z

  -- it holds after the openings of tick t, if it held of what was there before
  held_opened : (h : List Call) (q t : ℕ) (last : ℕ → Place) (m : Memory) → now h ≡ q * hyper tab + t → t < hyper tab → Sized tab m
      → ((s : ℕ) → s < tab.signals → last s ≡ L.place (bound tab s t))
      → ((v : Value) → IsValue tab v → Live v t → closing tab v ≤ t → get m (L.place v) ≡ content tab q h v)
      → ((s k i : ℕ) → IsValue tab (by s k i) → is_open tab k i t ≡ true → opens tab k i < t → Live (by s k i) t → get m (L.place (by s k i)) ≡ draft tab q h s k i)
      → ((s k i : ℕ) → k < tab.tasks → opens tab k i ≡ t → draft tab q h s k i ≡ default_of tab s)
      → Held tab L Live h (opened tab L t last m)
  held_opened h q t last m time inside z right ended going fresh =
      record {
        round = q;
        time = time;
        inside = inside;
        sized = openings_sized tab L t m z;
        last = λ s j. getD_each tab.signals last s nowhere j ∙ right s j;
        ended = λ v y p c. open_stays t inside m v y p (λ s k j o e. omega (arith, F.window k j, ap (closing tab) e)) ∙ ended v y p c;
        going = going_on;
      }
    where
      going_on : (s k i : ℕ) → IsValue tab (by s k i) → is_open tab k i t ≡ true → Live (by s k i) t → get (openings tab L t m) (L.place (by s k i)) ≡ draft tab q h s k i
      going_on s k i y o p =
          split (eqb (opens tab k i) t)
          (λ e. let x = eqb-true (opens tab k i) t e in open_begins t inside m s k i z y p x ∙ sym (fresh s k i y.1 x))
          (λ e. let x = eqb-false (opens tab k i) t e in
          open_stays t inside m (by s k i) y p (λ r l j u c. x (sym (ap (opening tab) c) ∙ u)) ∙ going s k i y o (omega (arith, open_true tab k i t o)) p)

  -- ---- loading

  pub held_loaded : Held tab L Live [] (loaded tab L)
  unfolding loaded now bound latest written content value_at
  held_loaded =
      held_opened [] 0 0 (λ s. L.place (carried s)) (L.filled empty) (omega arith) (hyper_pos tab F) (S.filled_sized empty sized) (λ s j. refl) ended
      (λ s k i y o l. absurd (omega arith)) (λ s k i j e. refl)
    where
      empty : Memory
      empty = record { block = replicate (room tab) 0 }

      sized : Sized tab empty
      sized = length-replicate {A = ℕ} (room tab) 0

      ended : (v : Value) → IsValue tab v → Live v 0 → closing tab v ≤ 0 → get (L.filled empty) (L.place v) ≡ content tab 0 [] v
      ended (carried s) y p c = S.filled_carried empty s y (carries s 0 y p) sized ∙ (rw zero-mul)
      ended (by s k i) y p c = absurd (omega (arith, F.window k y.1))

  module _ (h : List Call) (st : State) (K : Held tab L Live h st) where
    abbrev t : ℕ
    t = st.tick

    abbrev q : ℕ
    q = K.round

    abbrev m : Memory
    m = memory st

    -- ---- closings

    closed_is : (s : ℕ) → s < tab.signals → closed tab L st s ≡ L.place (bound tab s (suc t))
    closed_is s j =
        split_option (publisher tab s t)
        (λ e. rw (e, bound_none tab s t e) (K.last s j))
        (λ k e. rw (e, bound_some tab s t k e))

    -- if v closes at the next tick, it is what is published there
    abbrev Wins : Value → Type 0
    Wins v = closing tab v ≡ suc t → publisher tab (signal_of v) t ≡ some (task_of v)

    bound_wins : (s : ℕ) → Wins (bound tab s (suc t))
    bound_wins s c =
        split_option (publisher tab s t)
        (λ e. absurd (omega (arith, closing_le tab s t, ap (closing tab) (bound_none tab s t e))))
        (λ k e. rw (bound_some tab s t k e) e)

    -- each live value that is published by the next tick is in its place
    ended_next : (v : Value) → IsValue tab v → Live v t → closing tab v ≤ suc t → Wins v → get m (L.place v) ≡ content tab q h v
    unfolding published content
    ended_next v y p c w =
        split (leb (closing tab v) t)
        (λ e. K.ended v y p (leb-true (closing tab v) t e))
        (λ e. now_ended v y p (omega (arith, leb-false (closing tab v) t e)) w)
      where
        now_ended : (v : Value) → IsValue tab v → Live v t → closing tab v ≡ suc t → Wins v → get m (L.place v) ≡ content tab q h v
        now_ended (carried s) y p c w = absurd (omega arith)
        now_ended (by s k i) y p c w =
            K.going s k i y (open_is tab k i t (omega (arith, F.window k y.1)) (omega arith)) p
            ∙ sym (value_closing tab F q h s k i t y.1 (w c) (close_instance tab F k i t y.1 c) c)

    -- ---- copies at H

    -- another signal's copy leaves a place that its carried value does not touch
    copy_other : (r : ℕ) (p : Place) (x : Memory) → (Carries L r → Apart (L.place (carried r)) p) → get (move x (closed tab L st r) (L.place (carried r))) p ≡ get x p
    copy_other r p x f = put_other x (L.place (carried r)) p (get x (closed tab L st r)) (somewhere_apart (L.place (carried r)) p f)

    copied_carried : suc t ≡ hyper tab → (s : ℕ) → s < tab.signals → Carries L s → get (copied tab L st m) (L.place (carried s)) ≡ get m (L.place (bound tab s (suc t)))
    unfolding copied
    copied_carried end s j c =
        loop_turn (λ x. Sized tab x × (get x from ≡ get m from)) (λ x. get x to ≡ get m from) tab.signals _ m s j
        (λ r x i f z. (
          put_sized tab x (L.place (carried r)) (get x (closed tab L st r)) z.0,
          copy_other r from x (λ d. subst (λ u. Apart (L.place (carried r)) (L.place (bound tab s u))) (sym end) (S.last_apart r s i j d c f)) ∙ z.1,
        ))
        (λ x z. put_same tab x to (get x (closed tab L st s)) z.0 (S.seated (carried s) 0 j (S.carried_live s j c)) ∙ ap (get x) (closed_is s j) ∙ z.1)
        (λ r x i f e. copy_other r to x (λ d. S.apart (carried r) (carried s) 0 i j (S.carried_live r i d) (S.carried_live s j c) (λ v. f (ap signal_of v))) ∙ e)
        (K.sized, refl)
      where
        from : Place
        from = L.place (bound tab s (suc t))

        to : Place
        to = L.place (carried s)

    -- what is copied is what the next hyper-period is carried
    last_ended : suc t ≡ hyper tab → (s : ℕ) → s < tab.signals → Carries L s → get m (L.place (bound tab s (suc t))) ≡ content tab (suc q) h (carried s)
    unfolding content
    last_ended end s j c =
        ended_next (bound tab s (suc t)) (bound_value tab F s j (suc t) K.inside) (rw end (S.last_live s t j c end)) (closing_le tab s (suc t)) (bound_wins s)
        ∙ sym (value_bound tab F q h s (suc t)) ∙ ap (value_at tab h s) (omega arith)

    -- ---- steps

    content_step : (q : ℕ) (v : Value) → content tab q (step ∷ h) v ≡ content tab q h v
    unfolding content
    content_step q v = value_same tab h (step ∷ h) (signal_of v) (q * hyper tab + closing tab v) (λ k i j w c. written_step tab h (signal_of v) k i)

    -- a window that opens later has nothing written
    unwritten : (r s k i u : ℕ) → k < tab.tasks → opens tab k i ≡ u → now h < r * hyper tab + u → draft tab r (step ∷ h) s k i ≡ default_of tab s
    unwritten r s k i u g e w =
        rw (written_step tab h s k (r * instances tab k + i), written_before tab h s k (r * instances tab k + i) (omega (arith, start_shift tab F r k i g)))

    held_inside : suc t < hyper tab → Held tab L Live (step ∷ h) (opened tab L (suc t) (closed tab L st) m)
    unfolding now
    held_inside g =
        held_opened (step ∷ h) q (suc t) (closed tab L st) m (omega (arith, K.time)) g K.sized closed_is
        (λ v y p c. ended_next v y (S.earlier v t y p (longer v t y c)) c (wins v y p) ∙ sym (content_step q v))
        (λ s k i y o l p.
        let b = open_true tab k i (suc t) o in
        rw (written_step tab h s k (q * instances tab k + i)) (K.going s k i y (open_is tab k i t (omega arith) (omega arith)) (S.earlier (by s k i) t y p (omega arith))))
        (λ s k i j e. unwritten q s k i (suc t) j e (omega (arith, K.time)))
      where
        wins : (v : Value) → IsValue tab v → Live v (suc t) → Wins v
        wins (carried s) y p c = absurd (omega arith)
        wins (by s k i) y p c = S.winner s k i t y c p

    held_turned : suc t ≡ hyper tab → Held tab L Live (step ∷ h) (opened tab L 0 (λ s. L.place (carried s)) (copied tab L st m))
    unfolding now bound latest
    held_turned end =
        held_opened (step ∷ h) (suc q) 0 (λ s. L.place (carried s)) (copied tab L st m) (omega (arith, K.time)) (hyper_pos tab F) (copied_sized tab L st m K.sized) (λ s j. refl) ended
        (λ s k i y o l. absurd (omega arith)) (λ s k i j e. unwritten (suc q) s k i 0 j e (omega (arith, K.time)))
      where
        ended : (v : Value) → IsValue tab v → Live v 0 → closing tab v ≤ 0 → get (copied tab L st m) (L.place v) ≡ content tab (suc q) (step ∷ h) v
        ended (carried s) y p c = copied_carried end s y (carries s 0 y p) ∙ last_ended end s y (carries s 0 y p) ∙ sym (content_step (suc q) (carried s))
        ended (by s k i) y p c = absurd (omega (arith, F.window k y.1))

    pub held_step : Held tab L Live (step ∷ h) (stepped tab L st)
    unfolding stepped
    held_step =
        split (ltb (suc t) (hyper tab))
        (λ e. rw e (held_inside (ltb-true (suc t) (hyper tab) e)))
        (λ e. rw e (held_turned (omega (arith, K.inside, ltb-false (suc t) (hyper tab) e))))

    -- ---- calls that change nothing

    held_same : (g : List Call) → now g ≡ now h
        → ((v : Value) → closing tab v ≤ t → content tab q g v ≡ content tab q h v)
        → ((s k i : ℕ) → IsValue tab (by s k i) → is_open tab k i t ≡ true → written tab g s k (q * instances tab k + i) ≡ written tab h s k (q * instances tab k + i))
        → Held tab L Live g st
    held_same g e v w = record {
      round = q;
      time = e ∙ K.time;
      inside = K.inside;
      sized = K.sized;
      last = K.last;
      ended = λ x y p c. K.ended x y p c ∙ sym (v x c);
      going = λ s k i y o p. rw (w s k i y o) (K.going s k i y o p);
    }

    pub held_read : (k s : ℕ) → Held tab L Live (read k s ∷ h) st
    unfolding now content
    held_read k s =
        held_same (read k s ∷ h) refl
        (λ v c. value_same tab h (read k s ∷ h) (signal_of v) (q * hyper tab + closing tab v) (λ j i l w d. written_read tab k s h (signal_of v) j i))
        (λ r j i y o. written_read tab k s h r j (q * instances tab j + i))

    -- ---- writes

    module _ (k s : ℕ) (c : Content) where
      -- a write leaves what is published
      content_write : (v : Value) → closing tab v ≤ t → content tab q (write k s c ∷ h) v ≡ content tab q h v
      unfolding content
      content_write v l = value_write tab k s c h (signal_of v) (q * hyper tab + closing tab v) (omega (arith, K.time))

      abbrev target : Value
      target = by s k (instance tab k t)

      -- and what the other open instances hold
      written_elsewhere : (r j i : ℕ) → IsValue tab (by r j i) → is_open tab j i t ≡ true → (by r j i ≡ target → ⊥)
          → written tab (write k s c ∷ h) r j (q * instances tab j + i) ≡ written tab h r j (q * instances tab j + i)
      written_elsewhere r j i y o f =
          written_other tab k s c h r j (q * instances tab j + i) (λ d e x. f (rw (open_instance tab F j i t y.1 o, d, e)))

      pub held_refused : (k < tab.tasks → s < tab.signals → tab.writes s k ≡ true → is_open tab k (instance tab k t) t ≡ true → ⊥) → Held tab L Live (write k s c ∷ h) st
      unfolding now
      held_refused f =
          held_same (write k s c ∷ h) refl content_write (λ r j i y o. written_elsewhere r j i y o (λ e.
          let a : r ≡ s = cc in
          let b : j ≡ k = cc in
          let d : i ≡ instance tab k t = cc in
          f (rw (← b) y.1) (rw (← a) y.0) (rw (← a, ← b) (is (tab.writes r j) y.2)) (rw (← d, ← b) o)))

      pub held_stored : k < tab.tasks → s < tab.signals → tab.writes s k ≡ true → is_open tab k (instance tab k t) t ≡ true → Held tab L Live (write k s c ∷ h) (stored tab L st s k c)
      unfolding stored now
      held_stored j r p o = record {
        round = q;
        time = K.time;
        inside = K.inside;
        sized = put_sized tab m (L.place target) c K.sized;
        last = K.last;
        ended = λ v y l d.
            window_other m s k (instance tab k t) t v c here o y l (λ e. omega (arith, ap (closing tab) e, open_true tab k (instance tab k t) t o)) ∙ K.ended v y l d ∙ sym (content_write v d);
        going = going;
      }
        where
          here : IsValue tab target
          here = (r, j, holds p, instance_lt tab F k t j K.inside)

          going : (r j i : ℕ) → IsValue tab (by r j i) → is_open tab j i t ≡ true → Live (by r j i) t → get (put m (L.place target) c) (L.place (by r j i)) ≡ draft tab q (write k s c ∷ h) r j i
          going r' j' i y u l =
              split (eqb r' s && eqb j' k)
              (λ e.
              let b = both (eqb r' s) (eqb j' k) e in
              let z : by r' j' i ≡ target = rw (open_instance tab F j' i t y.1 u, eqb-true r' s b.0, eqb-true j' k b.1) in
              let n = written_now tab c h s k (q * instances tab k + instance tab k t) (rw K.time (open_shift tab F q k (instance tab k t) t j ∙ o)) in
              rw (open_instance tab F j' i t y.1 u, eqb-true r' s b.0, eqb-true j' k b.1, n) (live_same m target t c K.sized here (subst (λ (v : Value). Live v t) z l)))
              (λ e.
              let d : by r' j' i ≡ target → ⊥ = λ a. not_both (ap₂ ◌&&◌ (eq-eqb r' s (ap signal_of a)) (eq-eqb j' k (ap task_of a))) e in
              rw (written_elsewhere r' j' i y u d) (window_other m s k (instance tab k t) t (by r' j' i) c here o y l (λ a. d (sym a)) ∙ K.going r' j' i y u l))
