-- The grid: accesses that rise are put into it one by one, and it has exactly those. Assumes nothing.
use Prim.Native.Nat.{ℕ, zero, suc, ◌/◌, ◌%◌, ◌≤◌, ◌<◌}
use mathlib.Core.Path.{◌≡◌, refl, sym, ap, ◌∙◌}
use mathlib.Core.Bool.{Bool, true, ◌&&◌, ◌||◌}
use mathlib.Core.List.{List, [], ◌∷◌}
use mathlib.Core.Logic.{◌⊎◌, inl, inr, ◌↔◌}
use native.Mathlib.Nat.{div-one, zero-div}
use native.Mathlib.Omega.{arith}
use lib.Dec.{leb, eqb}
use lib.ListN.{length, get_or, set, replicate, length-set, get_or-replicate}
use lib.Seq.{get_or-set_same, get_or-set_other}
use borrow.Author.Tests.{eqb-true, eqb-false, eq-eqb, leb-true, leb-false}
use Rattle.rules.specs.Words.{when}
use Rattle.rules.specs.Windows.{Table}
use Rattle.rules.specs.Table.{most_tasks, most_signals}
use Rattle.rules.specs.Fields.{byte_at}
use Rattle.rules.specs.Records.{key_of}
use Rattle.rules.specs.Reading.{Grid, no_grid, cell_at, joined_of, put_cell, Marked, put_marked, no_marked, writes_in, reads_in, table_of}
use Rattle.rules.specs.declared.Access.{Access}
use Rattle.rules.specs.declared.Tasks.{Tasks}
use Rattle.rules.specs.declared.Signals.{Signals}
use Rattle.theory.proofs.Tests.{split, both, or_cases, or_left, or_right, and_is, not_both}
use Rattle.theory.proofs.Lists.{In, all_in, Rising, rising_same}
use Rattle.theory.proofs.Sections.{Kind, puts, Fitting, fitting_all}
use Rattle.theory.proofs.Records.{each_right, Names, Follows, access_kind}
use Rattle.theory.proofs.Listed.{access, access_list, allowed, Has, all_has, in_accesses, accesses_rise}

-- ---- one cell

-- a cell that a right has joined has that right and those before; it has WR only if that is the right
abbrev Joined : ℕ → ℕ → Type 0
Joined right cell = (2 ≤ joined_of right cell → 1 < right) × ((r : ℕ) → 0 < r → r < 3 → eqb (joined_of right cell / r % 2) 1 ≡ (eqb r right || eqb (cell / r % 2) 1))

joins_read : (cell : ℕ) → (1 ≤ cell → 1 < 1) → cell < 2 → Joined 1 cell
unfolding joined_of when
joins_read zero f h = ((λ h. h), each_right (λ r. eqb (1 / r % 2) 1 ≡ (eqb r 1 || eqb (0 / r % 2) 1)) refl refl)
joins_read (suc cell) f h = absurd (omega (arith, f (omega arith)))

joins_write : (cell : ℕ) → (1 ≤ cell → 1 < 2) → cell < 2 → Joined 2 cell
unfolding joined_of when
joins_write zero f h = ((λ h. h), each_right (λ r. eqb (2 / r % 2) 1 ≡ (eqb r 2 || eqb (0 / r % 2) 1)) refl refl)
joins_write (suc zero) f h = ((λ h. omega arith), each_right (λ r. eqb (3 / r % 2) 1 ≡ (eqb r 2 || eqb (1 / r % 2) 1)) refl refl)
joins_write (suc (suc cell)) f h = absurd (omega arith)

-- it joins a cell that has none; and WR, one that has RD
joins : (cell right : ℕ) → 0 < right → right < 3 → (1 ≤ cell → 1 < right) → cell < 2 → Joined right cell
joins cell = each_right (λ r. (1 ≤ cell → 1 < r) → cell < 2 → Joined r cell) (joins_read cell) (joins_write cell)

-- ---- the grid

-- one is there, then more
and_then : {P I Q E R : Type 0} → P ↔ (I ⊎ Q) → Q ↔ (E ⊎ R) → P ↔ ((E ⊎ I) ⊎ R)
and_then {P} {I} {Q} {E} {R} more one = ((λ p. to (more.0 p)), from)
  where
    new : E ⊎ R → (E ⊎ I) ⊎ R
    new (inl e) = inl (inl e)
    new (inr r) = inr r

    to : I ⊎ Q → (E ⊎ I) ⊎ R
    to (inl i) = inl (inr i)
    to (inr q) = new (one.0 q)

    from : (E ⊎ I) ⊎ R → P
    from (inl (inl e)) = more.1 (inr (one.1 (inl e)))
    from (inl (inr i)) = more.1 (inl i)
    from (inr r) = more.1 (inr (one.1 (inr r)))

-- 16 rows of 32 cells
record Shaped (g : Grid) : Type 0 where
  rows : length g ≡ most_tasks
  columns : (k : ℕ) → k < most_tasks → length (get_or g k []) ≡ most_signals

module _ (g : Grid) (h : Shaped g) (k s v : ℕ) (small : k < most_tasks) (narrow : s < most_signals) where
  abbrev stored : Grid
  stored = set g k (set (get_or g k []) s v)

  stored_here : cell_at stored k s ≡ v
  stored_here = rw (get_or-set_same g k (set (get_or g k []) s v) [] (omega (arith, h.rows))) (get_or-set_same (get_or g k []) s v 0 (omega (arith, h.columns k small)))

  stored_there : (l r : ℕ) → (l ≡ k → r ≡ s → ⊥) → cell_at stored l r ≡ cell_at g l r
  stored_there l r n =
      split (eqb l k)
      (λ q. let z = eqb-true l k q in rw (z, get_or-set_same g k (set (get_or g k []) s v) [] (omega (arith, h.rows))) (get_or-set_other (get_or g k []) s r v 0 (n z)))
      (λ q. rw (get_or-set_other g k l (set (get_or g k []) s v) [] (eqb-false l k q)))

  stored_shaped : Shaped stored
  stored_shaped = record {
    rows = length-set g k (set (get_or g k []) s v) ∙ h.rows;
    columns = λ l z.
        split (eqb l k)
        (λ q. rw (eqb-true l k q, get_or-set_same g k (set (get_or g k []) s v) [] (omega (arith, h.rows)), length-set (get_or g k []) s v) (h.columns k small))
        (λ q. rw (get_or-set_other g k l (set (get_or g k []) s v) [] (eqb-false l k q)) (h.columns l z));
  }

-- the grid has this access
abbrev has_right : Grid → Access → Bool
has_right g x = eqb (cell_at g x.task x.signal / x.right % 2) 1

-- no access of the grid comes after the last
record Kept (b : Marked) : Type 0 where
  shaped : Shaped b.grid
  reads : (k s : ℕ) → 1 ≤ cell_at b.grid k s → key_of (access k s 1) ≤ key_of b.accesses.last
  writes : (k s : ℕ) → 2 ≤ cell_at b.grid k s → key_of (access k s 2) ≤ key_of b.accesses.last

module _ (bytes : List ℕ) (tasks signals : ℕ) (few_tasks : tasks ≤ most_tasks) (few_signals : signals ≤ most_signals) where
  module _ (b : Marked) (x : Access) (f : Follows tasks signals b x) (K : Kept b) where
    abbrev c : ℕ
    c = cell_at b.grid x.task x.signal

    joined : Joined x.right c
    joined =
        joins c x.right f.names.some_right f.names.right
        (λ h. omega (arith, K.reads x.task x.signal h, f.after))
        (split (leb 2 c) (λ q. absurd (omega (arith, K.writes x.task x.signal (leb-true 2 c q), f.after, f.names.right))) (λ q. leb-false 2 c q))

    -- what holds of the new cell, and of each other one as before, holds of all
    each_cell : (Q : ℕ → ℕ → ℕ → Type 0) → Q x.task x.signal (joined_of x.right c) → ((k s : ℕ) → (k ≡ x.task → s ≡ x.signal → ⊥) → Q k s (cell_at b.grid k s)) → (k s : ℕ) → Q k s (cell_at (put_cell b.grid x) k s)
    each_cell Q here there k s =
        let at = stored_here b.grid K.shaped x.task x.signal (joined_of x.right c) (omega (arith, f.names.task)) (omega (arith, f.names.signal)) in
        let off = stored_there b.grid K.shaped x.task x.signal (joined_of x.right c) (omega (arith, f.names.task)) (omega (arith, f.names.signal)) in
        split (eqb k x.task && eqb s x.signal)
        (λ q.
        let e = both (eqb k x.task) (eqb s x.signal) q in
        rw (eqb-true k x.task e.0, eqb-true s x.signal e.1, at) here)
        (λ q.
        let n : k ≡ x.task → s ≡ x.signal → ⊥ = λ y z. not_both (and_is (eq-eqb k x.task y) (eq-eqb s x.signal z)) q in
        rw (off k s n) (there k s n))

    put_kept : Kept (put_marked b x)
    put_kept = record {
      shaped = stored_shaped b.grid K.shaped x.task x.signal (joined_of x.right c) (omega (arith, f.names.task)) (omega (arith, f.names.signal));
      reads = each_cell (λ k s n. 1 ≤ n → key_of (access k s 1) ≤ key_of x) (λ h. omega (arith, f.names.some_right)) (λ k s n h. omega (arith, K.reads k s h, f.after));
      writes = each_cell (λ k s n. 2 ≤ n → key_of (access k s 2) ≤ key_of x) (λ h. omega (arith, joined.0 h)) (λ k s n h. omega (arith, K.writes k s h, f.after));
    }

    put_has : (y : Access) → 0 < y.right → y.right < 3 → (has_right (put_cell b.grid x) y ≡ true) ↔ ((x ≡ y) ⊎ (has_right b.grid y ≡ true))
    put_has y h l =
        each_cell (λ k s n. (eqb (n / y.right % 2) 1 ≡ true) ↔ ((x ≡ access k s y.right) ⊎ (eqb (cell_at b.grid k s / y.right % 2) 1 ≡ true)))
        ((λ e. here (or_cases (eqb y.right x.right) (eqb (c / y.right % 2) 1) (sym (joined.1 y.right h l) ∙ e))), λ o. joined.1 y.right h l ∙ back o)
        (λ k s n. (inr, λ o. there k s n o))
        y.task y.signal
      where
        here : (eqb y.right x.right ≡ true) ⊎ (eqb (c / y.right % 2) 1 ≡ true) → (x ≡ access x.task x.signal y.right) ⊎ (eqb (c / y.right % 2) 1 ≡ true)
        here (inl e) = inl (ap (access x.task x.signal) (sym (eqb-true y.right x.right e)))
        here (inr e) = inr e

        back : (x ≡ access x.task x.signal y.right) ⊎ (eqb (c / y.right % 2) 1 ≡ true) → (eqb y.right x.right || eqb (c / y.right % 2) 1) ≡ true
        back (inl e) = or_left (eqb y.right x.right) _ (eq-eqb y.right x.right (sym (ap (λ z. z.right) e)))
        back (inr e) = or_right (eqb y.right x.right) _ e

        there : (k s : ℕ) → (k ≡ x.task → s ≡ x.signal → ⊥) → (x ≡ access k s y.right) ⊎ (eqb (cell_at b.grid k s / y.right % 2) 1 ≡ true) → eqb (cell_at b.grid k s / y.right % 2) 1 ≡ true
        there k s n (inl e) = absurd (n (sym (ap (λ z. z.task) e)) (sym (ap (λ z. z.signal) e)))
        there k s n (inr e) = e

  -- ---- all of them

  abbrev kind : Kind Access Marked
  kind = access_kind bytes tasks signals

  grid_has : (xs : List Access) (b : Marked) → Kept b → Fitting kind b xs → (y : Access) → 0 < y.right → y.right < 3 → (has_right (puts kind b xs).grid y ≡ true) ↔ (In y xs ⊎ (has_right b.grid y ≡ true))
  grid_has [] b K f y h l = (inr, none)
    where
      none : ⊥ ⊎ (has_right b.grid y ≡ true) → has_right b.grid y ≡ true
      none (inl z) = absurd z
      none (inr e) = e
  grid_has (x ∷ xs) b K f y h l = and_then (grid_has xs (put_marked b x) (put_kept b x f.0 K) f.1 y h l) (put_has b x f.0 K y h l)

  follow_rise : (xs : List Access) (b : Marked) → Fitting kind b xs → Rising key_of (suc (key_of b.accesses.last)) xs (suc (key_of (puts kind b xs).accesses.last))
  follow_rise [] b f = omega arith
  follow_rise (x ∷ xs) b f = (f.0.after, follow_rise xs (put_marked b x) f.1)

-- ---- the table that was read has those accesses

zeros : (m s : ℕ) → byte_at (replicate m 0) s ≡ 0
zeros zero s = refl
zeros (suc m) zero = refl
zeros (suc m) (suc s) = zeros m s

blank : (n m k s : ℕ) → cell_at (replicate n (replicate m 0)) k s ≡ 0
blank zero m k s = refl
blank (suc n) m zero s = zeros m s
blank (suc n) m (suc k) s = blank n m k s

no_cell : (k s : ℕ) → cell_at no_grid k s ≡ 0
no_cell = blank most_tasks most_signals

none_kept : Kept no_marked
none_kept = record {
  shaped = record { rows = refl; columns = λ k h. ap length (get_or-replicate most_tasks k (replicate most_signals 0) [] h) };
  reads = λ k s h. absurd (omega (arith, no_cell k s));
  writes = λ k s h. absurd (omega (arith, no_cell k s));
}

module _ (bytes : List ℕ) (ts : Tasks) (ds : Signals) (few_tasks : ts.count ≤ most_tasks) (few_signals : ds.count ≤ most_signals) where
  allowed_is : (g : Grid) (k s r : ℕ) → 0 < r → r < 3 → allowed (table_of ts ds g) (access k s r) ≡ has_right g (access k s r)
  unfolding reads_in writes_in
  allowed_is g k s = each_right (λ r. allowed (table_of ts ds g) (access k s r) ≡ has_right g (access k s r)) (rw (div-one (cell_at g k s))) refl

  pub grid_lists : (xs : List Access) → Fitting (access_kind bytes ts.count ds.count) no_marked xs → access_list (table_of ts ds (puts (access_kind bytes ts.count ds.count) no_marked xs).grid) ≡ xs
  grid_lists xs f = rising_same key_of 1 _ _ (access_list tab) xs (accesses_rise tab (omega arith)) (follow_rise bytes ts.count ds.count few_tasks few_signals xs no_marked f) to from
    where
      g : Grid
      g = (puts (access_kind bytes ts.count ds.count) no_marked xs).grid

      tab : Table
      tab = table_of ts ds g

      has : (y : Access) → 0 < y.right → y.right < 3 → (has_right g y ≡ true) ↔ (In y xs ⊎ (has_right no_grid y ≡ true))
      has = grid_has bytes ts.count ds.count few_tasks few_signals xs no_marked none_kept f

      new : (y : Access) → In y xs ⊎ (has_right no_grid y ≡ true) → In y xs
      new y (inl i) = i
      new y (inr e) = absurd (not_both e (rw (no_cell y.task y.signal, zero-div y.right)))

      to : (y : Access) → In y (access_list tab) → In y xs
      to y i =
          let h = all_in (Has tab) (access_list tab) (all_has tab) y i in
          new y ((has y h.names.some_right h.names.right).0 (sym (allowed_is g y.task y.signal y.right h.names.some_right h.names.right) ∙ h.allows))

      from : (y : Access) → In y xs → In y (access_list tab)
      from y i =
          let n = all_in (Names ts.count ds.count) xs (fitting_all (access_kind bytes ts.count ds.count) (Names ts.count ds.count) (λ b x f. f.names) no_marked xs f) y i in
          in_accesses tab y (record { names = n; allows = allowed_is g y.task y.signal y.right n.some_right n.right ∙ (has y n.some_right n.right).1 (inl i) })
