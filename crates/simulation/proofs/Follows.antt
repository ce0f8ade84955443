-- The numbers of a state that runs a table do what document 01's machine does: instances, openings, closings, copies. Assumes nothing.
use Prim.Native.Nat.{ℕ, zero, suc, ◌+◌, ◌/◌, ◌%◌, ◌≤◌, ◌<◌}
use mathlib.Core.Path.{◌≡◌, refl, sym, ap, ◌∙◌}
use mathlib.Core.Bool.{Bool, true, false, not, ◌&&◌, cond}
use mathlib.Core.List.{List, [], ◌∷◌}
use mathlib.Core.Option.{Option, none, some}
use Rattle.std.specs.Prelude.{Some, None}
use Rattle.std.specs.Prelude as std
use native.Mathlib.Omega.{arith}
use native.Mathlib.Numerals.{add-one}
use lib.Dec.{leb, ltb, eqb}
use lib.ListN.{length, get_or, length-set, get_or-eq_default}
use lib.Seq.{get_or-set_same, set_out}
use borrow.Author.Tests.{ltb-true, ltb-false, lt-ltb, le-ltb, lt-leb, le-leb, eq-eqb, ne_eqb, eqb-true, eqb-false}
use Rattle.rules.specs.Words.{when, highest, maybe, up_to}
use Rattle.rules.specs.Windows.{Table, opens, closes, instance, is_open, hyper, instances}
use Rattle.rules.specs.Values.{carried, by, publisher, opens_at}
use Rattle.rules.specs.Table.{words, Fits, most_tasks, most_signals, most_uses}
use Rattle.rules.specs.Meaning.{Content, word, default_of}
use Rattle.rules.specs.Stores.{Memory, Place, in_words, nowhere, get, put, move, word_in, fill}
use Rattle.rules.specs.Machine.{State, Layout}
use Rattle.rules.specs.Machine as rules
use Rattle.theory.specs.Places.{Sized}
use Rattle.theory.proofs.Tests.{split, and_is}
use Rattle.theory.proofs.Hyper.{period_pos}
use Rattle.theory.proofs.Time.{instance_lt}
use Rattle.theory.proofs.Joins.{open_mod, opens_mod, closes_mod}
use Rattle.theory.proofs.Loops.{loop_keeps, loop_turn, loop_same, loop_trim, loop_idle, loop_once, loop_seen}
use Rattle.theory.proofs.Memory.{put_sized}
use Rattle.state.specs.Parts.{at, cell, periods, starts, ends, counts, writes, uses, held, tick, numbers}
use Rattle.state.specs.Parts as parts
use Rattle.state.specs.Rows.{phase_of, instance_if, opening_of, closing_of, inside_of, load, save, lacks, use_of, publish_one, fill_one, carry_one, release_one, at_instance, published, openings, copies, released}
use Rattle.state.proofs.Frames.{Off, set_off, published_off}
use Rattle.simulation.specs.Simulates.{position_of, permits, Knows}

-- ---- instances

-- the instance, where a test holds
abbrev found_if : Bool → ℕ → std.Option ℕ
found_if test i = cond test (Some i) None

-- a task without instances has none
none_of_none : (test : Bool) (period t : ℕ) → instance_if test period 0 t ≡ None
unfolding instance_if when
none_of_none test period t = split test (λ e. rw e (split (eqb period 0) (λ q. rw q) (λ q. rw (q, le-leb 0 (t / period) (omega arith))))) (λ e. rw e)

module _ (tab : Table) (F : Fits tab) (k t : ℕ) (h : k < tab.tasks) (l : t < hyper tab) where
  found_if_lem : (test : Bool) → instance_if test (tab.period k) (instances tab k) t ≡ found_if test (instance tab k t)
  unfolding instance_if when
  found_if_lem test =
      let p = ne_eqb (tab.period k) 0 (λ z. omega (arith, period_pos tab F k h)) in
      let b = lt-leb (instances tab k) (instance tab k t) (instance_lt tab F k t h l) in
      split test (λ e. rw (e, p, b)) (λ e. rw e)

  phase_is : phase_of (tab.period k) t ≡ t % tab.period k
  phase_is = rw (ne_eqb (tab.period k) 0 (λ z. omega (arith, period_pos tab F k h)))

module _ (tab : Table) (L : Layout) (F : Fits tab) (n : List ℕ) (K : Knows tab L n) (t : ℕ) (now : at n tick ≡ t) (l : t < hyper tab) where
  -- task k opens at the tick, and closes at the next one
  abbrev starting : ℕ → Bool
  starting k = eqb (opens tab k (instance tab k t)) t

  abbrev ending : ℕ → Bool
  ending k = eqb (closes tab k (instance tab k t)) (suc t)

  opening_is : (k : ℕ) → k < tab.tasks → opening_of n k ≡ found_if (starting k) (instance tab k t)
  unfolding opening_of
  opening_is k h =
      rw (K.periods_are k h, K.starts_are k h, K.counts_are k h, now)
      (found_if_lem tab F k t h l _ ∙ ap (λ b. found_if b (instance tab k t)) (ap (λ p. eqb p (tab.start k)) (phase_is tab F k t h l) ∙ sym (opens_mod tab k t)))

  closing_is : (k : ℕ) → k < tab.tasks → closing_of n k ≡ found_if (ending k) (instance tab k t)
  unfolding closing_of
  closing_is k h =
      rw (K.periods_are k h, K.ends_are k h, K.counts_are k h, now)
      (found_if_lem tab F k t h l _ ∙ ap (λ b. found_if b (instance tab k t)) (ap (λ p. eqb p (tab.end k)) (ap (λ p. p + 1) (phase_is tab F k t h l) ∙ add-one (t % tab.period k)) ∙ sym (closes_mod tab k t)))

  pub inside_is : (k : ℕ) → k < tab.tasks → inside_of n k ≡ found_if (is_open tab k (instance tab k t) t) (instance tab k t)
  unfolding inside_of
  inside_is k h =
      rw (K.periods_are k h, K.starts_are k h, K.ends_are k h, K.counts_are k h, now)
      (found_if_lem tab F k t h l _ ∙ ap (λ b. found_if b (instance tab k t)) (ap (λ p. leb (tab.start k) p && ltb p (tab.end k)) (phase_is tab F k t h l) ∙ sym (open_mod tab k t)))

-- ---- words of the store

pub load_is : (m : Memory) (p : Place) → length m.block ≡ words → load m.block (position_of p) ≡ word_in (get m p)
unfolding load get
load_is m (in_words a) e =
    split (ltb a words) (λ q. rw q) (λ q. let h : length m.block ≤ a = omega (arith, ltb-false a words q) in rw (q, get_or-eq_default m.block 0 h))
load_is m nowhere e = refl

pub save_is : (m : Memory) (p : Place) (c : Content) → length m.block ≡ words → save m.block (position_of p) (word_in c) ≡ (put m p c).block
unfolding save put
save_is m (in_words a) c e = split (ltb a words) (λ q. rw q) (λ q. rw (q, set_out m.block a (word_in c) (omega (arith, ltb-false a words q))))
save_is m nowhere c e = refl

-- a word copied onto itself
save_same : (b : List ℕ) → save b 0 (load b 0) ≡ b
unfolding load save
save_same [] = refl
save_same (x ∷ b) = refl

-- the last turn that stores a value decides
last_acts : (p : ℕ → Bool) (f : ℕ → ℕ) (n x : ℕ) → up_to n (λ k y. cond (p k) (f k) y) x ≡ maybe (highest p n) x f
unfolding up_to highest
last_acts p f zero x = refl
last_acts p f (suc n) x = split (p n) (λ e. rw e) (λ e. rw e (last_acts p f n x))

maybe_position : (o : Option ℕ) (p : Place) (f : ℕ → Place) → maybe o (position_of p) (λ k. position_of (f k)) ≡ position_of (maybe o p f)
maybe_position none p f = refl
maybe_position (some k) p f = refl

module _ (tab : Table) (L : Layout) (F : Fits tab) (n : List ℕ) (K : Knows tab L n) where
  -- which accesses the state has
  permitted : (allowed : ℕ → ℕ → Bool) (k s : ℕ) → k < tab.tasks → s < tab.signals → allowed s k ≡ true → permits tab allowed k s ≡ true
  permitted allowed k s h r e = and_is (and_is (lt-ltb k tab.tasks h) (lt-ltb s tab.signals r)) e

  writes_it : (k s : ℕ) → k < tab.tasks → s < tab.signals → tab.writes s k ≡ true → lacks n writes k s ≡ false
  writes_it k s h r e = K.writes_are.exact k s (omega (arith, F.few_tasks)) (omega (arith, F.few_signals)) ∙ ap not (permitted tab.writes k s h r e)

  idle : (k s : ℕ) → k < most_tasks → s < most_signals → permits tab tab.writes k s ≡ false → lacks n writes k s ≡ true
  idle k s h r e = K.writes_are.exact k s h r ∙ ap not e

  unwritten : (k s : ℕ) → k < most_tasks → s < most_signals → tab.writes s k ≡ false → lacks n writes k s ≡ true
  unwritten k s h r e = idle k s h r (rw e (split (ltb k tab.tasks && ltb s tab.signals) (λ q. rw q) (λ q. rw q)))

  no_signal : (k s : ℕ) → k < most_tasks → s < most_signals → tab.signals ≤ s → lacks n writes k s ≡ true
  no_signal k s h r e = idle k s h r (rw (le-ltb s tab.signals e) (split (ltb k tab.tasks) (λ q. rw q) (λ q. rw q)))

  written : (s k i : ℕ) → s < tab.signals → k < tab.tasks → tab.writes s k ≡ true → i < instances tab k → use_of n writes k i s ≡ position_of (L.place (by s k i))
  written s k i r h w l = K.writes_are.stands s k i (permitted tab.writes k s h r w) l

  module _ (t : ℕ) (now : at n tick ≡ t) (l : t < hyper tab) where
    abbrev begun : ℕ → Bool
    begun k = eqb (opens tab k (instance tab k t)) t

    abbrev ended : ℕ → Bool
    ended k = eqb (closes tab k (instance tab k t)) (suc t)

    abbrev at_now : ℕ → ℕ → Place
    at_now s k = L.place (by s k (instance tab k t))

    -- ---- openings

    module _ (d : List ℕ) (D : (s : ℕ) → s < tab.signals → get_or d s 0 ≡ tab.default s) where
      -- task k sets its place of signal s to the default, if it opens
      abbrev sets : ℕ → ℕ → Memory → Memory
      sets k s m = cond (opens_at tab t s k) (put m (at_now s k) (default_of tab s)) m

      sets_sized : (k s : ℕ) (m : Memory) → Sized tab m → Sized tab (sets k s m)
      sets_sized k s m z = split (opens_at tab t s k) (λ e. rw e (put_sized tab m (at_now s k) (default_of tab s) z)) (λ e. rw e z)

      open_one : (s k : ℕ) → s < tab.signals → k < tab.tasks → begun k ≡ true → (m : Memory) → Sized tab m → fill_one n d k (instance tab k t) s m.block ≡ (sets k s m).block
      unfolding fill_one opens_at default_of
      open_one s k a h o m z =
          split (tab.writes s k)
          (λ w. rw (writes_it k s h a w, written s k (instance tab k t) a h w (instance_lt tab F k t h l), D s a, w, o) (save_is m (at_now s k) (word (tab.default s)) z))
          (λ w. rw (unwritten k s (omega (arith, F.few_tasks)) (omega (arith, F.few_signals)) w, w))

      -- a task that opens sets the places of all its signals
      open_row : (k : ℕ) → k < tab.tasks → (m : Memory) → Sized tab m
          → at_instance (fill_one n d k) (found_if (begun k) (instance tab k t)) m.block ≡ (up_to tab.signals (sets k) m).block
      unfolding fill_one opens_at
      open_row k h m z =
          split (begun k)
          (λ o. rw o (
          loop_trim tab.signals most_signals (fill_one n d k (instance tab k t)) m.block F.few_signals (λ s x a b. rw (no_signal k s (omega (arith, F.few_tasks)) b a))
          ∙ sym (loop_seen (Sized tab) (λ x. x.block) (fill_one n d k (instance tab k t)) tab.signals (sets k) m (λ s x a y. (sets_sized k s x y, sym (open_one s k a h o x y))) z)))
          (λ o. rw o (ap (λ (x : Memory). x.block) (sym (loop_idle tab.signals (sets k) m (λ s x a. rw o (split (tab.writes s k) (λ w. rw w) (λ w. rw w)))))))

      pub opened_is : (m : Memory) → Sized tab m → openings n d m.block ≡ (rules.openings tab L t m).block
      unfolding openings opening_of fill rules.openings
      opened_is m z =
          loop_trim tab.tasks most_tasks turn m.block F.few_tasks (λ k x a b. rw (K.no_task k a b, none_of_none (eqb (phase_of (at n (periods + k)) (at n tick)) (at n (starts + k))) (at n (periods + k)) (at n tick)))
          ∙ sym (loop_seen (Sized tab) (λ x. x.block) turn tab.tasks (λ k. up_to tab.signals (sets k)) m
          (λ k x h y. (loop_keeps (Sized tab) tab.signals (sets k) x (λ s w a. sets_sized k s w) y, sym (rw (opening_is tab L F n K t now l k h) (open_row k h x y)))) z)
        where
          turn : ℕ → List ℕ → List ℕ
          turn k = at_instance (fill_one n d k) (opening_of n k)

    -- ---- closings

    -- the same as n but for what is held
    pub record Like (a : List ℕ) : Type 0 where
      pub long : length a ≡ length n
      pub off : (k : ℕ) → Off held most_signals k → at a k ≡ at n k

    like_cell : (a : List ℕ) → Like a → (k r : ℕ) → k < most_tasks → r < most_signals → at a (cell writes k r) ≡ at n (cell writes k r)
    like_cell a q k r h b = q.off (cell writes k r) (λ s c e. omega arith)

    like_use : (a : List ℕ) → Like a → (k i r : ℕ) → k < most_tasks → r < most_signals → use_of a writes k i r ≡ use_of n writes k i r
    unfolding use_of
    like_use a q k i r h b =
        let j = at n (cell writes k r) + i in
        rw (like_cell a q k r h b)
        (split (ltb j most_uses) (λ e. let c = ltb-true j most_uses e in rw (e, q.off (uses + j) (λ s z y. omega arith))) (λ e. rw e))

    like_closing : (a : List ℕ) → Like a → (k : ℕ) → k < most_tasks → closing_of a k ≡ closing_of n k
    unfolding closing_of
    like_closing a q k h =
        rw (q.off tick (λ s c e. omega arith), q.off (periods + k) (λ s c e. omega arith), q.off (counts + k) (λ s c e. omega arith), q.off (ends + k) (λ s c e. omega arith))

    publish_like : (k i r : ℕ) → r < most_signals → (a : List ℕ) → Like a → Like (publish_one k i r a)
    unfolding publish_one
    publish_like k i r b a q =
        split (lacks a writes k r)
        (λ e. rw e q)
        (λ e. rw e (record {
          long = length-set a (held + r) (use_of a writes k i r) ∙ q.long;
          off = λ x o. set_off a (held + r) x (use_of a writes k i r) (o r b) ∙ q.off x o;
        }))

    row_like : (k : ℕ) (o : std.Option ℕ) (a : List ℕ) → Like a → Like (at_instance (publish_one k) o a)
    row_like k (Some i) a q = loop_keeps Like most_signals (publish_one k i) a (λ r x b. publish_like k i r b x) q
    row_like k None a q = q

    module _ (full : length n ≡ numbers) where
      -- what is seen of signal s after a task's turn for signal r
      publish_one_lem : (s k r : ℕ) → s < tab.signals → k < tab.tasks → r < most_signals → (a : List ℕ) → Like a
          → at (publish_one k (instance tab k t) r a) (held + s) ≡ cond (eqb r s && tab.writes s k) (position_of (at_now s k)) (at a (held + s))
      unfolding publish_one
      publish_one_lem s k r a h b x q =
          let i = instance tab k t in
          let few : k < most_tasks = omega (arith, F.few_tasks) in
          let one : s < most_signals = omega (arith, F.few_signals) in
          rw (like_cell x q k r few b, like_use x q k i r few b)
          (split (eqb r s)
          (λ y. let z = eqb-true r s y in rw (z, eq-eqb s s refl) (split (tab.writes s k)
          (λ w. rw (writes_it k s h a w, written s k i a h w (instance_lt tab F k t h l), w) (get_or-set_same x (held + s) (position_of (at_now s k)) 0 (omega (arith, q.long))))
          (λ w. rw (unwritten k s few one w, w))))
          (λ y. rw y (split (lacks n writes k r)
          (λ w. rw w)
          (λ w. rw w (set_off x (held + r) (held + s) (use_of n writes k i r) (λ z. eqb-false r s y (omega arith)))))))

      -- what is seen of signal s after the turn of task k
      publish_row : (s k : ℕ) → s < tab.signals → k < tab.tasks → (a : List ℕ) → Like a
          → at (at_instance (publish_one k) (found_if (ended k) (instance tab k t)) a) (held + s) ≡ cond (tab.writes s k && ended k) (position_of (at_now s k)) (at a (held + s))
      publish_row s k a h x q =
          let v = position_of (at_now s k) in
          split (ended k)
          (λ o. rw o (
          loop_seen Like (λ y. at y (held + s)) (λ r y. cond (eqb r s && tab.writes s k) v y) most_signals (publish_one k (instance tab k t)) x
          (λ r y b z. (publish_like k (instance tab k t) r b y z, publish_one_lem s k r a h b y z)) q
          ∙ loop_once most_signals (λ r y. cond (eqb r s && tab.writes s k) v y) (at x (held + s)) s (omega (arith, F.few_signals)) (λ r y b z. rw (ne_eqb r s z))
          ∙ rw (eq-eqb s s refl) (split (tab.writes s k) (λ w. rw w) (λ w. rw w))))
          (λ o. rw o (split (tab.writes s k) (λ w. rw w) (λ w. rw w)))

      -- tasks that there are not close nothing
      beyond : (k : ℕ) → tab.tasks ≤ k → k < most_tasks → closing_of n k ≡ None
      unfolding closing_of
      beyond k a b = rw (K.no_task k a b) (none_of_none (eqb (phase_of (at n (periods + k)) (at n tick) + 1) (at n (ends + k))) (at n (periods + k)) (at n tick))

      abbrev turn : ℕ → List ℕ → List ℕ
      turn k a = at_instance (publish_one k) (closing_of a k) a

      pub closed_like : Like (published n)
      unfolding published
      closed_like = loop_keeps Like most_tasks turn n (λ k a h q. row_like k (closing_of a k) a q) (record { long = refl; off = λ k o. refl })

      pub closed_at : (s : ℕ) → s < tab.signals → at (published n) (held + s) ≡ maybe (publisher tab s t) (at n (held + s)) (λ k. position_of (at_now s k))
      unfolding published publisher
      closed_at s a =
          loop_seen Like (λ y. at y (held + s)) seen most_tasks turn n (λ k x h q. (row_like k (closing_of x k) x q, rw (like_closing x q k h) (task k h x q))) (record { long = refl; off = λ k o. refl })
          ∙ loop_trim tab.tasks most_tasks seen (at n (held + s)) F.few_tasks (λ k y b h. rw (le-ltb k tab.tasks b))
          ∙ loop_same tab.tasks seen (λ k y. cond (tab.writes s k && ended k) (position_of (at_now s k)) y) (at n (held + s)) (λ k y h. rw (lt-ltb k tab.tasks h))
          ∙ last_acts (λ k. tab.writes s k && ended k) (λ k. position_of (at_now s k)) tab.tasks (at n (held + s))
        where
          seen : ℕ → ℕ → ℕ
          seen k y = cond (ltb k tab.tasks) (cond (tab.writes s k && ended k) (position_of (at_now s k)) y) y

          task : (k : ℕ) → k < most_tasks → (x : List ℕ) → Like x → at (at_instance (publish_one k) (closing_of n k) x) (held + s) ≡ seen k (at x (held + s))
          task k h x q =
              split (ltb k tab.tasks)
              (λ e. let b = ltb-true k tab.tasks e in rw (e, closing_is tab L F n K t now l k b) (publish_row s k a b x q))
              (λ e. rw (e, beyond k (ltb-false k tab.tasks e) h))

      -- nothing is held of a signal that does not exist
      pub closed_none : (s : ℕ) → tab.signals ≤ s → s < most_signals → at n (held + s) ≡ 0 → at (published n) (held + s) ≡ 0
      unfolding published publish_one
      closed_none s a b e =
          (loop_keeps Bare most_tasks turn n (λ k x h q. row k h (closing_of x k) x q) (record { long = refl; off = λ k o. refl }, e)).1
        where
          Bare : List ℕ → Type 0
          Bare x = Like x × (at x (held + s) ≡ 0)

          one : (k i r : ℕ) → k < most_tasks → r < most_signals → (x : List ℕ) → Bare x → Bare (publish_one k i r x)
          one k i r h c x (q, z) = (
            publish_like k i r c x q,
            split (eqb s r)
                (λ y. let v = eqb-true s r y in rw (like_cell x q k r h c, no_signal k r h c (omega arith)) z)
                (λ y. split (lacks x writes k r)
                (λ w. rw w z)
                (λ w. rw w (set_off x (held + r) (held + s) (use_of x writes k i r) (λ v. eqb-false s r y (omega arith)) ∙ z))),
          )

          row : (k : ℕ) → k < most_tasks → (o : std.Option ℕ) (x : List ℕ) → Bare x → Bare (at_instance (publish_one k) o x)
          row k h (Some i) x q = loop_keeps Bare most_signals (publish_one k i) x (λ r y c. one k i r h c y) q
          row k h None x q = q

      -- ---- copies at H

      module _ (st : State) (is-now : st.tick ≡ t) (H : (s : ℕ) → s < tab.signals → at n (held + s) ≡ position_of (get_or st.last s nowhere))
          (N : (s : ℕ) → tab.signals ≤ s → s < most_signals → at n (held + s) ≡ 0) where
        pub closed_is : (s : ℕ) → s < tab.signals → at (published n) (held + s) ≡ position_of (rules.closed tab L st s)
        closed_is s a =
            rw is-now (closed_at s a ∙ ap (λ x. maybe (publisher tab s t) x (λ k. position_of (at_now s k))) (H s a) ∙ maybe_position (publisher tab s t) (get_or st.last s nowhere) (at_now s))

        pub copied_is : (m : Memory) → Sized tab m → copies (published n) m.block ≡ (rules.copied tab L st m).block
        unfolding copies carry_one rules.copied
        copied_is m z =
            loop_trim tab.signals most_signals (carry_one (published n)) m.block F.few_signals (λ s x a b. rw (element0 s b, K.none_carried s a b, closed_none s a b (N s a b)) (save_same x))
            ∙ sym (loop_seen (Sized tab) (λ x. x.block) (carry_one (published n)) tab.signals copy m (λ s x h y. (put_sized tab x (L.place (carried s)) (get x (rules.closed tab L st s)) y, sym (copy_is s h x y))) z)
          where
            element0 : (s : ℕ) → s < most_signals → at (published n) (parts.carried + s) ≡ at n (parts.carried + s)
            element0 s b = published_off n (parts.carried + s) (λ r c e. omega arith)

            copy : ℕ → Memory → Memory
            copy s x = move x (rules.closed tab L st s) (L.place (carried s))

            copy_is : (s : ℕ) → s < tab.signals → (x : Memory) → Sized tab x → carry_one (published n) s x.block ≡ (copy s x).block
            copy_is s h x y =
                rw (element0 s (omega (arith, F.few_signals)), K.carried_are s h, closed_is s h, load_is x (rules.closed tab L st s) y)
                (save_is x (L.place (carried s)) (get x (rules.closed tab L st s)) y)

-- ---- at H: what is held is where the carried values stand

module _ (n : List ℕ) (full : length n ≡ numbers) where
  pub released_long : length (released n) ≡ numbers
  unfolding released release_one
  released_long = loop_keeps (λ a. length a ≡ numbers) most_signals release_one n (λ s a h q. length-set a (held + s) (at a (parts.carried + s)) ∙ q) full

  pub released_at : (s : ℕ) → s < most_signals → at (released n) (held + s) ≡ at n (parts.carried + s)
  unfolding released release_one
  released_at s h =
      (loop_turn Same (λ a. Same a × (at a (held + s) ≡ at n (parts.carried + s))) most_signals release_one n s h
      (λ r a b d q. keeps r a b q)
      (λ a (z, o). (keeps s a h (z, o), rw (o (parts.carried + s) (omega arith)) (get_or-set_same a (held + s) (at n (parts.carried + s)) 0 (omega arith))))
      (λ r a b d (q, e). (keeps r a b q, set_off a (held + r) (held + s) (at a (parts.carried + r)) (λ z. d (omega arith)) ∙ e))
      (full, λ k o. refl)).1
    where
      Same : List ℕ → Type 0
      Same a = (length a ≡ numbers) × ((k : ℕ) → k < held → at a k ≡ at n k)

      keeps : (r : ℕ) (a : List ℕ) → r < most_signals → Same a → Same (release_one r a)
      keeps r a b (z, o) = (length-set a (held + r) (at a (parts.carried + r)) ∙ z, λ k h. set_off a (held + r) k (at a (parts.carried + r)) (λ e. omega arith) ∙ o k h)
