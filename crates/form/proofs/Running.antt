-- The records of a signal stand after its own record and before the next signal's; so the sum of the counts stays small.
use Rattle.std.specs.Prelude.{Result, Ok, Err}
use Rattle.rules.specs.declared.Refusal.{Refusal}
use mathlib.Core.Path.{◌≡◌, refl, subst, sym}
use mathlib.Core.List.{List, [], ◌∷◌, ◌++◌}
use Prim.Native.Nat.{ℕ, zero, suc, ◌+◌, ◌*◌, ◌≤◌, zero-le}
use native.Mathlib.Nat.{le_refl}
use native.Mathlib.Omega.{arith}
use borrow.Author.Tests.{ltb-false}
use Rattle.rules.specs.Table.{most_elements}
use Rattle.fields.proofs.Whens.{over}
use Rattle.rules.specs.Words.{gather}
use Rattle.rules.specs.Fields.{WI, RI, byte_at}
use Rattle.rules.specs.Bytes.{Part, bf, wi, ri}
use Rattle.rules.specs.Reading.{Grid}
use Rattle.rules.specs.declared.Side.{Side}
use Rattle.form.specs.declared.forms.Place.{Place}
use Rattle.form.specs.Records.{use_of, users_of, side_parts, sides_parts, signal_parts, parts_in}
use Rattle.form.specs.Form.{walked, step, signal_step, use_step}

-- ---- n signals' own records stand before the list, m before its end

abbrev pub Within : ℕ → List Part → ℕ → Type 0
Within n [] m = n ≡ m
Within n (bf s ∷ xs) m = (s ≡ n) × Within (suc n) xs m
Within n (wi s k i ∷ xs) m = (suc s ≡ n) × Within n xs m
Within n (ri s k i ∷ xs) m = (suc s ≡ n) × Within n xs m

within_append : (n m q : ℕ) (xs ys : List Part) → Within n xs m → Within m ys q → Within n (xs ++ ys) q
within_append n m q [] ys a b = subst (λ z. Within z ys q) (sym a) b
within_append n m q (bf s ∷ xs) ys a b = (a.0, within_append (suc n) m q xs ys a.1 b)
within_append n m q (wi s k i ∷ xs) ys a b = (a.0, within_append n m q xs ys a.1 b)
within_append n m q (ri s k i ∷ xs) ys a b = (a.0, within_append n m q xs ys a.1 b)

within_gather : (at : ℕ → ℕ) (f : ℕ → List Part) (n : ℕ) → ((k : ℕ) → Within (at k) (f k) (at (suc k))) → Within (at 0) (gather n f) (at n)
unfolding gather
within_gather at f zero a = refl
within_gather at f (suc n) a = within_append (at 0) (at n) (at (suc n)) (gather n f) (f n) (within_gather at f n a) (a n)

use_within : (side : Side) (s k i : ℕ) → Within (suc s) (use_of side s k i ∷ []) (suc s)
use_within Side.Writers s k i = (refl, refl)
use_within Side.Readers s k i = (refl, refl)

module _ (grid : Grid) (instances : List ℕ) (tasks : ℕ) where
  side_within : (side : Side) (s : ℕ) → Within (suc s) (side_parts grid instances tasks side s) (suc s)
  unfolding side_parts
  side_within side s =
      within_gather (λ k. suc s) _ tasks (λ k. within_gather (λ i. suc s) (λ i. use_of side s k i ∷ []) (users_of grid instances side s k) (λ i. use_within side s k i))

  pub parts_within : (n : ℕ) → Within 0 (parts_in grid instances tasks n) n
  unfolding parts_in signal_parts sides_parts
  parts_within n =
      within_gather (λ s. s) (signal_parts grid instances tasks) n
      (λ s. (refl, within_append (suc s) (suc s) (suc s) (side_parts grid instances tasks Side.Writers s) (side_parts grid instances tasks Side.Readers s) (side_within Side.Writers s) (side_within Side.Readers s)))

-- ---- the sum so far

abbrev sum_of : Result Place Refusal → ℕ
sum_of (Ok p) = p.sum
sum_of (Err r) = 0

module _ (bytes : List ℕ) where
  use_sum : (mark : List ℕ) (s k i : ℕ) (p : Place) → sum_of (use_step bytes mark s k i p) ≤ p.sum
  unfolding use_step
  use_sum mark s k i p =
      over (λ w. sum_of w ≤ p.sum) _ _ _ zero-le
      (λ a. over (λ w. sum_of w ≤ p.sum) _ _ _ zero-le
      (λ b. over (λ w. sum_of w ≤ p.sum) _ _ _ zero-le
      (λ c. le_refl p.sum)))

  signal_sum : (s : ℕ) (p : Place) → sum_of (signal_step bytes s p) ≤ p.sum + most_elements
  unfolding signal_step
  signal_sum s p =
      over (λ w. sum_of w ≤ p.sum + most_elements) _ _ _ zero-le
      (λ a. over (λ w. sum_of w ≤ p.sum + most_elements) _ _ _ zero-le
      (λ b. over (λ w. sum_of w ≤ p.sum + most_elements) _ _ _ zero-le
      (λ c. over (λ w. sum_of w ≤ p.sum + most_elements) _ _ _ zero-le
      (λ d. omega (arith, ltb-false most_elements (byte_at bytes (p.at + 3)) d)))))

  sums : (xs : List Part) (n m : ℕ) (w : Result Place Refusal) → Within n xs m → sum_of w ≤ most_elements * n → sum_of (walked (step bytes) xs w) ≤ most_elements * m
  unfolding walked
  sums [] n m w a h = omega arith
  sums (bf s ∷ xs) n m (Err r) b h = sums xs (suc n) m (Err r) b.1 zero-le
  sums (wi s k i ∷ xs) n m (Err r) b h = sums xs n m (Err r) b.1 zero-le
  sums (ri s k i ∷ xs) n m (Err r) b h = sums xs n m (Err r) b.1 zero-le
  sums (bf s ∷ xs) n m (Ok p) a h = sums xs (suc n) m (signal_step bytes s p) a.1 (omega (arith, signal_sum s p))
  sums (wi s k i ∷ xs) n m (Ok p) a h = sums xs n m (use_step bytes WI s k i p) a.1 (omega (arith, use_sum WI s k i p))
  sums (ri s k i ∷ xs) n m (Ok p) a h = sums xs n m (use_step bytes RI s k i p) a.1 (omega (arith, use_sum RI s k i p))

  -- the sum after n signals
  pub sum_small : (grid : Grid) (instances : List ℕ) (tasks n : ℕ) {p : Place} → Ok p ≡ walked (step bytes) (parts_in grid instances tasks n) (Ok (record { at = 0; count = 0; sum = 0 }))
      → p.sum ≤ most_elements * n
  sum_small grid instances tasks n e =
      subst (λ w. sum_of w ≤ most_elements * n) (sym e) (sums (parts_in grid instances tasks n) 0 n _ (parts_within grid instances tasks n) zero-le)
