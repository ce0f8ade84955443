-- The next publication and the end of a life that the passes find are those of rules.
use Rattle.std.specs.Prelude.{Option, Some, None}
use mathlib.Core.Path.{◌≡◌, refl, sym, ap, ◌∙◌}
use mathlib.Core.Logic.{⊎_elim, ◌⊎◌, inl, inr}
use mathlib.Core.Bool.{Bool, true}
use Prim.Native.Nat.{ℕ, suc, ◌-◌, ◌≤◌, ◌<◌, max}
use native.Mathlib.Nat.{le_refl, le_step, le_trans, le_of_lt, not-suc-le-zero, mul-le-mul_right, lt_of_mul-lt-mul_right, max-eq_left, max-eq_right, le-max_left, le-max_right, lt_of_not-le}
use native.Mathlib.Decide.{dec_le}
use native.Mathlib.Omega.{arith}
use lib.Dec.{ltb}
use borrow.Author.Tests.{ltb-true, ltb-false}
use Rattle.rules.specs.Windows.{Table, opens, closes, hyper, instances}
use Rattle.rules.specs.Values.{Value, carried, by, signal_of, closing, next, until, IsValue}
use Rattle.rules.specs.Table.{Fits}
use Rattle.rules.specs.Reading.{Grid, no_signals, table_of, writes_in, reads_in}
use Rattle.rules.specs.declared.Tasks.{Tasks}
use Rattle.rules.specs.declared.Signals.{Signals}
use Rattle.theory.proofs.Tests.{holds, is, not_both}
use Rattle.theory.proofs.Hyper.{divides}
use Rattle.theory.proofs.Time.{closes_le}
use Rattle.theory.proofs.Joins as joins
use Rattle.windows.specs.Windowed.{AllWindowed}
use Rattle.windows.specs.Forms.{next_closing, last_opened, task_in, IsLastOpened}
use Rattle.windows.proofs.Windows.{branch, fits_window, last_opened_lem, next_closing_lem}
use Rattle.signals.specs.Pass.{pass}
use Rattle.signals.specs.Forms.{next_of, reach_if, reach_of, reach_below, until_of}
use Rattle.signals.proofs.Passes.{pass_none, pass_chosen, pass_other, pass_law, below_suc}
use Rattle.signals.proofs.Standing.{Windows, closes_in_order}

-- ---- the next publication

module _ (tab : Table) (s h c : ℕ) where
  abbrev Comes : ℕ → ℕ → Type 0
  Comes n r = (r ≡ h) ⊎ ((k : ℕ) × (i : ℕ) × (k < n) × (tab.writes s k ≡ true) × (closes tab k i ≡ r) × (c < r))

  abbrev First : ℕ → ℕ → Type 0
  First r k = tab.writes s k ≡ true → (j : ℕ) → c < closes tab k j → r ≤ closes tab k j

  -- the first publication of the first n tasks after c, or h
  pub record Next (n r : ℕ) : Type 0 where
    pub within : r ≤ h
    pub first : (k : ℕ) → k < n → First r k
    pub one : Comes n r

  comes : {n a r : ℕ} → r ≡ a → Comes n a → Comes (suc n) r
  comes e = ⊎_elim (λ p. inl (e ∙ p)) (λ (k, i, l, w, p, q). inr (k, i, le_step l, w, p ∙ sym e, rw e q))

  pub next_found : Windows tab → Next tab.tasks (pass (tab.writes s) (λ k found. next_closing (task_in tab k) c found) h tab.tasks)
  next_found W =
      pass_law (tab.writes s) (λ k found. next_closing (task_in tab k) c found) h Next tab.tasks
      (record { within = le_refl h; first = λ k l. absurd (not-suc-le-zero l); one = inl refl })
      (λ k a l q w.
      let x = next_closing_lem tab k c (W k l) a in
      record {
        within = le_trans x.within q.within;
        first = below_suc (First (next_closing (task_in tab k) c a)) k (λ k' l' w' j g. le_trans x.within (q.first k' l' w' j g)) (λ w' j g. x.first j g);
        one = ⊎_elim (λ e. comes e q.one) (λ (j, e, g). inr (k, j, le_refl (suc k), w, e, g)) x.one;
      })
      (λ k a l q w. record { within = q.within; first = below_suc (First a) k q.first (λ w' j g. absurd (not_both w' w)); one = comes refl q.one })

module _ (tab : Table) (F : Fits tab) (s c : ℕ) where
  next_value : s < tab.signals → c ≤ hyper tab → (r : ℕ) → Next tab s (hyper tab) c tab.tasks r → next tab s (hyper tab - c) c ≡ r
  next_value y l r q =
      joins.next_is tab F s y c r
      (⊎_elim (λ e. omega arith) (λ (k, i, h, w, e, g). le_of_lt g) q.one)
      q.within
      (λ k j w g. q.first k w.0 (is (tab.writes s k) w.1) j g)
      (⊎_elim (λ e. inl e) (λ (k, i, h, w, e, g). inr (k, i, (h, holds w), e, g)) q.one)

-- the next publication after c
pub next_is : (tasks : Tasks) (signals : Signals) (grid : Grid) → Fits (table_of tasks signals grid) → (s c : ℕ) → s < signals.count → c ≤ hyper (table_of tasks signals grid)
    → next_of tasks (writes_in grid s) (hyper (table_of tasks signals grid)) c ≡ next (table_of tasks signals grid) s (hyper (table_of tasks signals grid) - c) c
unfolding next_of
next_is tasks signals grid F s c y l =
    let tab : Table = table_of tasks signals grid in
    sym (next_value tab F s c y l _ (next_found tab s (hyper tab) c (fits_window tab F)))

-- it is not after h
pub next_within : (tasks : Tasks) (grid : Grid) (s h c : ℕ) {r : ℕ} → AllWindowed tasks → r ≡ next_of tasks (writes_in grid s) h c → r ≤ h
unfolding next_of
next_within tasks grid s h c w e = rw e (next_found (table_of tasks no_signals grid) s h c w).within

-- ---- the end of a life

larger : (a b : ℕ) → (max a b ≡ a) ⊎ (max a b ≡ b)
larger a b = go (dec_le a b)
  where
    go : Dec (a ≤ b) → (max a b ≡ a) ⊎ (max a b ≡ b)
    go (yes l) = inr (max-eq_right l)
    go (no f) = inl (max-eq_left (le_of_lt (lt_of_not-le f)))

module _ (tab : Table) (s from to : ℕ) where
  abbrev Ends : ℕ → ℕ → Type 0
  Ends n u = (u ≡ to) ⊎ ((k : ℕ) × (j : ℕ) × (k < n) × (tab.reads s k ≡ true) × (from ≤ opens tab k j) × (opens tab k j < to) × (closes tab k j ≡ u))

  abbrev Past : ℕ → ℕ → Type 0
  Past u k = tab.reads s k ≡ true → (j : ℕ) → from ≤ opens tab k j → opens tab k j < to → closes tab k j ≤ u

  -- the larger of `to` and the last closing of a reader below n that opens from `from` on and before `to`
  pub record Reach (n u : ℕ) : Type 0 where
    pub past_to : to ≤ u
    pub past_all : (k : ℕ) → k < n → Past u k
    pub one : Ends n u

  ends : {n u r : ℕ} → r ≡ u → Ends n u → Ends (suc n) r
  ends e = ⊎_elim (λ p. inl (e ∙ p)) (λ (k, j, l, w, a, b, p). inr (k, j, le_step l, w, a, b, p ∙ sym e))

  one_reader : (n u : ℕ) → tab.reads s n ≡ true → Reach n u → (f : Option ℕ) → IsLastOpened tab n to f → Reach (suc n) (reach_if (task_in tab n) from u f)
  one_reader n u w q None l = record {
    past_to = q.past_to;
    past_all = below_suc (Past u) n q.past_all (λ w' j a b. omega (arith, l j));
    one = ends refl q.one;
  }
  one_reader n u w q (Some i) l =
      branch (Reach (suc n)) (ltb (opens tab n i) from)
      (λ b. record {
        past_to = q.past_to;
        past_all = below_suc (Past u) n q.past_all (λ w' j o h. omega (arith, ltb-true (opens tab n i) from b, mul-le-mul_right (tab.period n) (l.1 j h)));
        one = ends refl q.one;
      })
      (λ b. record {
        past_to = le_trans q.past_to (le-max_left u (closes tab n i));
        past_all = below_suc (Past (max u (closes tab n i))) n
            (λ k h w' j o g. le_trans (q.past_all k h w' j o g) (le-max_left u (closes tab n i)))
            (λ w' j o h. le_trans (closes_in_order tab n j i (l.1 j h)) (le-max_right u (closes tab n i)));
        one = ⊎_elim (λ e. ends e q.one) (λ e. inr (n, i, le_refl (suc n), w, ltb-false (opens tab n i) from b, l.0, sym e)) (larger u (closes tab n i));
      })

  pub reach_found : Windows tab → Reach tab.tasks (pass (tab.reads s) (λ k found. reach_of (task_in tab k) from to found) to tab.tasks)
  unfolding reach_of
  reach_found W =
      pass_law (tab.reads s) (λ k found. reach_of (task_in tab k) from to found) to Reach tab.tasks
      (record { past_to = le_refl to; past_all = λ k l. absurd (not-suc-le-zero l); one = inl refl })
      (λ k u l q w. one_reader k u w q (last_opened (task_in tab k) to) (last_opened_lem tab k to (W k l)))
      (λ k u l q w. record { past_to = q.past_to; past_all = below_suc (Past u) k q.past_all (λ w' j a b. absurd (not_both w' w)); one = ends refl q.one })

-- what the pass over the readers reached, from the next publication on
pub until_reached : (tasks : Tasks) (writes reads : ℕ → Bool) (h c : ℕ) {next r : ℕ} → next ≡ next_of tasks writes h c → r ≡ reach_below tasks reads c next tasks.count → r ≡ until_of tasks writes reads h c
unfolding until_of
until_reached tasks writes reads h c e q = q ∙ ap (λ (x : ℕ). reach_below tasks reads c x tasks.count) e

module _ (tab : Table) (F : Fits tab) (v : Value) (x : IsValue tab v) where
  pub closing_within : closing tab v ≤ hyper tab
  closing_within = go v x
    where
      go : (u : Value) → IsValue tab u → closing tab u ≤ hyper tab
      go (carried s) y = omega arith
      go (by s k i) (a, b, c, d) = closes_le tab F k i b d

  pub signal_known : signal_of v < tab.signals
  signal_known = go v x
    where
      go : (u : Value) → IsValue tab u → signal_of u < tab.signals
      go (carried s) y = y
      go (by s k i) y = y.0

  until_value : (n u : ℕ) → n ≡ joins.after tab F v x → n ≤ hyper tab → Reach tab (signal_of v) (closing tab v) n tab.tasks u → until tab v ≡ u
  until_value n u e l q =
      joins.until_is tab F v x u
      (rw (← e) q.past_to)
      (λ k i (h, r, m, a, b). q.past_all k h (is (tab.reads (signal_of v) k) r) i a (rw e b))
      (⊎_elim (λ p. inl (p ∙ e)) (λ (k, j, h, w, a, b, p). inr (k, j, (h, holds w, below k j h (omega arith), a, rw (← e) b), p)) q.one)
    where
      below : (k j : ℕ) → k < tab.tasks → opens tab k j < hyper tab → j < instances tab k
      below k j h o = lt_of_mul-lt-mul_right (tab.period k) (omega (arith, divides tab F k h))

-- until when a value of the table is live
pub until_is : (tasks : Tasks) (signals : Signals) (grid : Grid) → Fits (table_of tasks signals grid) → (v : Value) → IsValue (table_of tasks signals grid) v
    → until_of tasks (writes_in grid (signal_of v)) (reads_in grid (signal_of v)) (hyper (table_of tasks signals grid)) (closing (table_of tasks signals grid) v) ≡ until (table_of tasks signals grid) v
unfolding until_of
until_is tasks signals grid F v x =
    let tab : Table = table_of tasks signals grid in
    let s : ℕ = signal_of v in
    let c : ℕ = closing tab v in
    let n : ℕ = next_of tasks (writes_in grid s) (hyper tab) c in
    sym (until_value tab F v x n _ (next_is tasks signals grid F s c (signal_known tab F v x) (closing_within tab F v x)) (next_within tasks grid s (hyper tab) c (fits_window tab F) refl) (reach_found tab s c n (fits_window tab F)))

pub ruleset lives = (pass_none, pass_chosen, pass_other, next_within, until_reached)
