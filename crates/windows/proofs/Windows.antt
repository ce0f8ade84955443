-- Each closed form is what rules says of the instances of task k: the last to close, the next to close, the last to open.
use Rattle.std.specs.Prelude.{Some, None}
use Rattle.std.proofs.lemmas.Option.{none-some, same_Some}
use mathlib.Core.Path.{◌≡◌, refl, sym, ◌∙◌}
use mathlib.Core.Logic.{⊎_elim, ◌⊎◌, inl, inr}
use mathlib.Core.Bool.{Bool, true, false}
use Prim.Native.Nat.{ℕ, ◌+◌, ◌-◌, ◌*◌, ◌/◌, ◌≤◌, ◌<◌, min}
use native.Mathlib.Nat.{min-eq_left, min-eq_right, min-le_left, min-le_right, le_of_lt, le-div_iff_mul-le, div-le_self, div-mul-le_self, lt-div-mul-add, mul-le-mul_right, le_trans, lt_of_not-le}
use native.Mathlib.Omega.{arith}
use native.Mathlib.Decide.{dec_le}
use lib.Dec.{leb, ltb}
use borrow.Author.Tests.{le-leb, lt-leb, lt-ltb, le-ltb, ltb-true, ltb-false, leb-true, leb-false}
use Rattle.rules.specs.Words.{when}
use Rattle.rules.specs.Windows.{Table, closes}
use Rattle.rules.specs.Table.{longest, windowed, Fits}
use Rattle.rules.specs.declared.Task.{Task}
use Rattle.theory.proofs.Tests.{both3, and_is, split}
use Rattle.windows.specs.Windowed.{Windowed}
use Rattle.windows.specs.Forms.{last_closed, next_closing, last_opened, task_in, IsLastClosed, IsLastOpened, IsNextClosing}

-- a property of both answers of a test, each under what the test then says
pub branch : {A : Type 0} (P : A → Type 0) (b : Bool) {x y : A} → (b ≡ true → P x) → (b ≡ false → P y) → P (when b x y)
unfolding when
branch P true f g = f refl
branch P false f g = g refl

-- ---- a window

module _ (task : Task) where
  pub window : Windowed task → (task.start < task.end) × (task.end ≤ task.period) × (task.period ≤ longest)
  unfolding windowed
  window w =
      let b = both3 (ltb task.start task.end) (leb task.end task.period) (leb task.period longest) w in
      (ltb-true task.start task.end b.0, leb-true task.end task.period b.1, leb-true task.period longest b.2)

  pub windowed_is : task.start < task.end → task.end ≤ task.period → task.period ≤ longest → Windowed task
  unfolding windowed
  windowed_is a b c = and_is (and_is (lt-ltb task.start task.end a) (le-leb task.end task.period b)) (le-leb task.period longest c)

  pub period_pos : Windowed task → 0 < task.period
  period_pos w = let (a, b, c) = window w in omega arith

-- each task of a table that is accepted has its window inside its period
pub fits_window : (tab : Table) → Fits tab → (k : ℕ) → k < tab.tasks → Windowed (task_in tab k)
fits_window tab F k h = windowed_is (task_in tab k) (F.window k h) (F.within k h) (F.short k h)

-- the last multiple of p, moved on by o, that is at or before t
module _ (p o t : ℕ) (pos : 0 < p) (le : o ≤ t) where
  at_or_before : (t - o) / p * p + o ≤ t
  at_or_before = omega (arith, div-mul-le_self (t - o) p)

  past : t < ((t - o) / p + 1) * p + o
  past = omega (arith, lt-div-mul-add {a = t - o} pos)

  none_later : (j : ℕ) → j * p + o ≤ t → j ≤ (t - o) / p
  none_later j h = (le-div_iff_mul-le pos).1 (omega arith)

module _ (tab : Table) (k t : ℕ) (w : Windowed (task_in tab k)) where
  pub last_closed_lem : IsLastClosed tab k t (last_closed (task_in tab k) t)
  unfolding last_closed
  last_closed_lem =
      branch (IsLastClosed tab k t) (ltb t (tab.end k))
      (λ b j. omega (arith, ltb-true t (tab.end k) b))
      (λ b. let l = ltb-false t (tab.end k) b in
      (at_or_before (tab.period k) (tab.end k) t (period_pos (task_in tab k) w) l, none_later (tab.period k) (tab.end k) t (period_pos (task_in tab k) w) l))

  pub last_opened_lem : IsLastOpened tab k t (last_opened (task_in tab k) t)
  unfolding last_opened
  last_opened_lem =
      branch (IsLastOpened tab k t) (leb t (tab.start k))
      (λ b j. omega (arith, leb-true t (tab.start k) b))
      (λ b.
      let h = leb-false t (tab.start k) b in
      let l : tab.start k ≤ t - 1 = omega arith in
      let a = at_or_before (tab.period k) (tab.start k) (t - 1) (period_pos (task_in tab k) w) l in
      (omega arith, λ j o. none_later (tab.period k) (tab.start k) (t - 1) (period_pos (task_in tab k) w) l j (omega arith)))

  -- the first closing after t, up to no limit
  abbrev After : ℕ → Type 0
  After x = (t < x) × ((j : ℕ) → t < closes tab k j → x ≤ closes tab k j) × ((j : ℕ) × (closes tab k j ≡ x))

  first_after : After (when (leb (tab.end k) t) (((t - tab.end k) / tab.period k + 1) * tab.period k + tab.end k) (tab.end k))
  first_after =
      branch After (leb (tab.end k) t)
      (λ b. let l = leb-true (tab.end k) t b in
      (past (tab.period k) (tab.end k) t (period_pos (task_in tab k) w) l, (λ j h. later j h l), ((t - tab.end k) / tab.period k + 1, refl)))
      (λ b. let l = leb-false (tab.end k) t b in (l, (λ j h. omega arith), (0, omega arith)))
    where
      later : (j : ℕ) → t < closes tab k j → tab.end k ≤ t → closes tab k ((t - tab.end k) / tab.period k + 1) ≤ closes tab k j
      later j h l =
          let q : ℕ = (t - tab.end k) / tab.period k in
          let a : q * tab.period k + tab.end k ≤ t = at_or_before (tab.period k) (tab.end k) t (period_pos (task_in tab k) w) l in
          let b : q < j = lt_of_not-le (λ m. omega (arith, mul-le-mul_right (tab.period k) m)) in
          omega (arith, mul-le-mul_right (tab.period k) b)

  pub next_closing_lem : (limit : ℕ) → IsNextClosing tab k t limit (next_closing (task_in tab k) t limit)
  unfolding next_closing
  next_closing_lem limit =
      let x : ℕ = when (leb (tab.end k) t) (((t - tab.end k) / tab.period k + 1) * tab.period k + tab.end k) (tab.end k) in
      let f : After x = first_after in
      record {
        within = min-le_left limit x;
        first = λ j l. le_trans (min-le_right limit x) (f.1 j l);
        one = ⊎_elim (λ e. inl e) (λ e. inr (f.2.0, f.2.1 ∙ sym e, rw e f.0)) (smaller (dec_le limit x));
      }
    where
      smaller : {x : ℕ} → Dec (limit ≤ x) → (min limit x ≡ limit) ⊎ (min limit x ≡ x)
      smaller (yes l) = inl (min-eq_left l)
      smaller (no f) = inr (min-eq_right (le_of_lt (lt_of_not-le f)))

-- ---- each closed form by the test that the code made

module _ (task : Task) (t : ℕ) where
  pub closed_at : task.end ≤ t → Some ((t - task.end) / task.period) ≡ last_closed task t
  unfolding last_closed when
  closed_at l = simp (le-ltb t task.end l)

  pub closed_none : t < task.end → None ≡ last_closed task t
  unfolding last_closed when
  closed_none l = simp (lt-ltb t task.end l)

  pub opened_at : task.start < t → Some ((t - (task.start + 1)) / task.period) ≡ last_opened task t
  unfolding last_opened when
  opened_at l = let e : t - 1 - task.start ≡ t - (task.start + 1) = omega arith in simp (lt-leb t task.start l, e)

  pub opened_none : t ≤ task.start → None ≡ last_opened task t
  unfolding last_opened when
  opened_none l = simp (le-leb t task.start l)

  -- what it says back
  pub closed_is : {i : ℕ} → Some i ≡ last_closed task t → (task.end ≤ t) × (i ≡ (t - task.end) / task.period)
  closed_is {i} e =
      split (ltb t task.end)
      (λ b. absurd (none-some i (closed_none (ltb-true t task.end b) ∙ sym e)))
      (λ b. let l = ltb-false t task.end b in (l, same_Some _ _ (e ∙ sym (closed_at l))))

  pub none_closed : None ≡ last_closed task t → t < task.end
  none_closed e = split (ltb t task.end) (λ b. ltb-true t task.end b) (λ b. absurd (none-some _ (e ∙ sym (closed_at (ltb-false t task.end b)))))

-- the next closing is that of the instance after the last one that closed, or of the first
module _ (task : Task) (t limit : ℕ) {x : ℕ} where
  pub next_first : None ≡ last_closed task t → x ≡ task.end → min limit x ≡ next_closing task t limit
  unfolding next_closing when
  next_first e z = rw z (simp (lt-leb task.end t (none_closed task t e)))

  pub next_after : {i : ℕ} → Some i ≡ last_closed task t → x ≡ (i + 1) * task.period + task.end → min limit x ≡ next_closing task t limit
  unfolding next_closing when
  next_after e z = let (l, q) = closed_is task t e in rw (z, q) (simp (le-leb task.end t l))

-- what the check needs of the last instance, and of the next closing
pub ruleset last = (window, period_pos, closed_at, closed_none, opened_at, opened_none)

pub ruleset next = (window, closed_is, next_first, next_after, div-le_self, div-mul-le_self)
