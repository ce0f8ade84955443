-- Rule 11: the pairs of writers that the code compares decide what rules says of all their instances, and the search finds the lowest signal.
use mathlib.Core.Path.{◌≡◌, refl, sym, ap, subst, ◌∙◌}
use mathlib.Core.Bool.{Bool, true, false, not, ◌||◌}
use Rattle.std.specs.Prelude as Prelude
use Rattle.std.specs.Prelude.{Some, None, MatchBool, MatchOption}
use Rattle.std.specs.List.{range_with_len, AllWithin, HoldsAt}
use Rattle.std.proofs.lemmas.List.FromFn.{get_or-range_with_len, length-range_with_len}
use lib.ListN.{length, get_or}
use mathlib.Core.Option.{Option, none, some}
use Prim.Native.Nat.{ℕ, ◌≤◌, ◌<◌, zero-le}
use native.Mathlib.Nat.{lt_trans}
use native.Mathlib.Decide.{dec_lt}
use native.Mathlib.Omega.{arith}
use lib.Dec.{T, eqb}
use borrow.Author.Tests.{eq-eqb, eqb-true}
use Rattle.rules.specs.Words.{every, lowest, maybe}
use Rattle.rules.specs.Windows.{Table, closes}
use Rattle.rules.specs.Table.{single}
use Rattle.rules.specs.Reading.{Grid, writes_in}
use Rattle.rules.specs.declared.Tasks.{Tasks}
use Rattle.theory.proofs.Tests.{split_option, holds, is, agree, not_both, no_test, not_is, unless, unless_is}
use Rattle.theory.proofs.Check.{every_at, every_is, writer_at, writer_is}
use Rattle.theory.proofs.Lowest.{none_below, some_below}
use Rattle.windows.specs.Windowed.{AllWindowed}
use Rattle.windows.specs.Forms.{task_in}
use Rattle.signals.proofs.Standing.{Windows}
use Rattle.table.specs.Forms.{timed, meets, apart_below, publish_apart, first_clash}
use Rattle.table.proofs.Meeting.{meets_when, meets_at}

-- ---- a search that stops early

pub every_fails : (n k : ℕ) (p : ℕ → Bool) → k < n → p k ≡ false → false ≡ every n p
every_fails n k p h e = sym (no_test (every n p) (λ a. not_both (every_at n p a k h) e))

pub every_holds : (n : ℕ) (p : ℕ → Bool) → ((k : ℕ) → k < n → p k ≡ true) → true ≡ every n p
every_holds n p h = sym (every_is n p h)

number_at : (n k : ℕ) → k < n → get_or (range_with_len 0 n) k 0 ≡ k
number_at n k l = omega (arith, get_or-range_with_len 0 n k 0 l)

-- what `all` says of the numbers below n
pub all_is_every : (p : ℕ → Bool) (n : ℕ) (r : Bool)
    → MatchBool r (AllWithin (λ k. p k ≡ true) (range_with_len 0 n) 0 (length (range_with_len 0 n))) ((k : ℕ) × (k < length (range_with_len 0 n)) × HoldsAt (λ k. p k ≡ false) (range_with_len 0 n) k)
    → r ≡ every n p
all_is_every p n true h = every_holds n p (λ k l. subst (λ (x : ℕ). p x ≡ true) (number_at n k l) (h k 0 zero-le (rw (length-range_with_len 0 n) l)))
all_is_every p n false (k, l, h) =
    let m : k < n = rw (length-range_with_len 0 n) at l in
    every_fails n k p m (subst (λ (x : ℕ). p x ≡ false) (number_at n k m) (h 0))

-- ---- no two writers meet just where no two of their instances publish at one tick

module _ (tab : Table) (W : Windows tab) (s : ℕ) where
  abbrev below : ℕ → Bool
  below l = every l (λ k. not (tab.writes s k) || not (meets (task_in tab k) (task_in tab l)))

  abbrev apart : Bool
  apart = every tab.tasks (λ l. not (tab.writes s l) || below l)

  -- a lower writer does not meet a higher one
  unmet : apart ≡ true → (k l : ℕ) → k < l → l < tab.tasks → tab.writes s k ≡ true → tab.writes s l ≡ true → meets (task_in tab k) (task_in tab l) ≡ false
  unmet a k l h hl wk wl =
      not-true (unless (tab.writes s k) (not (meets (task_in tab k) (task_in tab l)))
      (every_at l (λ k. not (tab.writes s k) || not (meets (task_in tab k) (task_in tab l)))
      (unless (tab.writes s l) (below l) (every_at tab.tasks (λ l. not (tab.writes s l) || below l) a l hl) wl) k h) wk)
    where
      not-true : {b : Bool} → not b ≡ true → b ≡ false
      not-true {b} e = not_is b e

  one_writer : apart ≡ true → (k l i j : ℕ) → k < tab.tasks → l < tab.tasks → T (tab.writes s k) → T (tab.writes s l) → closes tab k i ≡ closes tab l j → k ≡ l
  one_writer a k l i j hk hl wk wl e = go (dec_lt k l) (dec_lt l k)
    where
      go : Dec (k < l) → Dec (l < k) → k ≡ l
      go (yes h) q = absurd (not_both (meets_when tab W k l hk hl i j e) (unmet a k l h hl (is (tab.writes s k) wk) (is (tab.writes s l) wl)))
      go (no f) (yes h) = absurd (not_both (meets_when tab W l k hl hk j i (sym e)) (unmet a l k h hk (is (tab.writes s l) wl) (is (tab.writes s k) wk)))
      go (no f) (no g) = omega arith

  -- two writers that meet would be one
  never_meet : single tab s ≡ true → (k l : ℕ) → k < l → l < tab.tasks → tab.writes s k ≡ true → tab.writes s l ≡ true → meets (task_in tab k) (task_in tab l) ≡ true → ⊥
  unfolding single
  never_meet a k l h hl wk wl m =
      let (i, j, x, y, e) = meets_at tab W k l (lt_trans h hl) hl m in
      let q = writer_at tab s _ (writer_at tab s _ a k i (lt_trans h hl) (holds wk) x) l j hl (holds wl) y in
      omega (arith, eqb-true k l (unless (eqb (closes tab k i) (closes tab l j)) (eqb k l) q (eq-eqb (closes tab k i) (closes tab l j) e)))

  single_apart : single tab s ≡ true → apart ≡ true
  single_apart a =
      every_is tab.tasks _ (λ l hl. unless_is (tab.writes s l) (below l) (λ wl.
      every_is l _ (λ k h. unless_is (tab.writes s k) (not (meets (task_in tab k) (task_in tab l))) (λ wk.
      ap not (no_test (meets (task_in tab k) (task_in tab l)) (never_meet a k l h hl wk wl))))))

  pub apart_is : apart ≡ single tab s
  unfolding single
  apart_is =
      agree
      (λ a. writer_is tab s _ (λ k i hk wk x. writer_is tab s _ (λ l j hl wl y.
      unless_is (eqb (closes tab k i) (closes tab l j)) (eqb k l) (λ e. eq-eqb k l (one_writer a k l i j hk hl wk wl (eqb-true (closes tab k i) (closes tab l j) e))))))
      single_apart

-- ---- the lowest signal

pub lowest_is : (p : ℕ → Bool) (n k : ℕ) → k < n → p k ≡ true → ((j : ℕ) → j < k → p j ≡ false) → lowest p n ≡ some k
lowest_is p n k h e f =
    split_option (lowest p n)
    (λ o. absurd (not_both e (none_below p n o k h)))
    (λ j o.
    let (a, b, c) = some_below p n j o in
    let x : ¬ (j < k) = λ l. not_both b (f j l) in
    let y : ¬ (k < j) = λ l. not_both e (c k l) in
    let z : j ≡ k = omega arith in
    o ∙ ap some z)

pub lowest_none : (p : ℕ → Bool) (n : ℕ) → ((j : ℕ) → j < n → p j ≡ false) → lowest p n ≡ none
lowest_none p n f = split_option (lowest p n) (λ o. o) (λ j o. let (a, b, c) = some_below p n j o in absurd (not_both b (f j a)))

module _ (tasks : Tasks) (signals : ℕ) (grid : Grid) where
  abbrev pub Apart : ℕ → Type 0
  Apart s = publish_apart tasks (writes_in grid s) ≡ true

  abbrev pub Clash : ℕ → Type 0
  Clash s = publish_apart tasks (writes_in grid s) ≡ false

  -- a search of the signals in their order
  pub clash_found : (o : Prelude.Option ℕ) → MatchOption o ((s : ℕ) → 0 ≤ s → s < signals → Apart s) (λ s. (0 ≤ s) × (s < signals) × Clash s × ((r : ℕ) → 0 ≤ r → r < s → Apart r)) → o ≡ first_clash tasks signals grid
  unfolding first_clash
  clash_found None f = rw (lowest_none (λ s. not (publish_apart tasks (writes_in grid s))) signals (λ r l. ap not (f r zero-le l))) refl
  clash_found (Some s) (z, h, e, f) = rw (lowest_is (λ s. not (publish_apart tasks (writes_in grid s))) signals s h (ap not e) (λ r l. ap not (f r zero-le l))) refl

  module _ (w : AllWindowed tasks) where
    -- what the code compares is what rules asks
    same_search : lowest (λ s. not (publish_apart tasks (writes_in grid s))) signals ≡ lowest (λ s. not (single (timed tasks signals grid) s)) signals
    unfolding publish_apart apart_below
    same_search = λ i. lowest (λ s. not (apart_is (timed tasks signals grid) w s i)) signals

    -- what the search gave, in the words of rules
    pub clash_is : first_clash tasks signals grid ≡ maybe (lowest (λ s. not (single (timed tasks signals grid) s)) signals) None (λ s. Some s)
    unfolding first_clash
    clash_is = ap (λ (o : Option ℕ). maybe o None (λ s. Some s)) same_search
