-- Loops that act (up_to): before the first turn, one turn, the end. Chains that test (every), that stop at the first failure or go through all. Assumes nothing.
use mathlib.Core.Path.{◌≡◌, refl, sym, ap, ap₂, ◌∙◌}
use mathlib.Core.Bool.{Bool, true, false, ◌&&◌}
use mathlib.Core.List.{List, [], ◌∷◌}
use Prim.Native.Nat.{ℕ, zero, suc, ◌+◌, ◌≤◌, ◌<◌}
use lib.ListN.{length, get_or}
use Rattle.std.specs.Prelude.{MatchBool}
use Rattle.std.specs.List.{fold, range_with_len, AllWithin, HoldsAt}
use Rattle.std.proofs.lemmas.List.FromFn.{get_or-range_with_len, length-range_with_len}
use Rattle.theory.proofs.Check.{every_at, every_is}
use Rattle.theory.proofs.Tests.{no_test, not_both}
use native.Mathlib.Nat.{le_antisymm, zero-add}
use native.Mathlib.Numerals.{add-one}
use native.Mathlib.Omega.{arith}
use Rattle.rules.specs.Words.{every, up_to}

pub acted_none : {A : Type 0} (f : ℕ → A → A) (a : A) → a ≡ up_to 0 f a
unfolding up_to
acted_none f a = refl

pub acted_turn : {A : Type 0} (f : ℕ → A → A) (a : A) (n : ℕ) {b o : A} → o ≡ f n b → b ≡ up_to n f a → o ≡ up_to (n + 1) f a
unfolding up_to
acted_turn f a n e h = e ∙ ap (f n) h ∙ (rw add-one)

pub acted_end : {A : Type 0} (f : ℕ → A → A) (a : A) (n m : ℕ) {o : A} → o ≡ up_to n f a → n ≤ m → m ≤ n → o ≡ up_to m f a
acted_end f a n m e h l = e ∙ ap (λ k. up_to k f a) (le_antisymm h l)

pub every_same : (n : ℕ) (p q : ℕ → Bool) → ((k : ℕ) → k < n → p k ≡ q k) → every n p ≡ every n q
unfolding every
every_same zero p q e = refl
every_same (suc n) p q e = ap₂ ◌&&◌ (e n (omega arith)) (every_same n p q (λ k h. e k (omega arith)))

-- what a loop that acts needs
pub ruleset acted = (acted_none, acted_turn, acted_end)

-- ---- tests of numbers that stand in a list

and_all : (a : Bool) → (a && true) ≡ a
and_all true = refl
and_all false = refl

and_three : (a b c : Bool) → ((a && b) && c) ≡ (a && (b && c))
and_three true b c = refl
and_three false b c = refl

-- the first number tested apart from those after it
every_first : (n : ℕ) (p : ℕ → Bool) → every (suc n) p ≡ (p 0 && every n (λ k. p (suc k)))
unfolding every
every_first zero p = refl
every_first (suc n) p = ap (λ b. p (suc n) && b) (every_first n p) ∙ and_turn (p (suc n)) (p 0) (every n (λ k. p (suc k)))
  where
    and_turn : (a b c : Bool) → (a && (b && c)) ≡ (b && (a && c))
    and_turn true b c = refl
    and_turn false true c = refl
    and_turn false false c = refl

-- a test of each number of a list, gone through to its end
pub folded : (q : ℕ → Bool) (ok : Bool) (l : List ℕ) → fold (λ ok x. ok && q x) ok l ≡ (ok && every (length l) (λ k. q (get_or l k 0)))
unfolding every
folded q ok [] = sym (and_all ok)
folded q ok (x ∷ l) = folded q (ok && q x) l ∙ and_three ok (q x) _ ∙ ap (λ b. ok && b) (sym (every_first (length l) (λ k. q (get_or (x ∷ l) k 0))))

-- the same of the numbers below n
pub folded_below : (p : ℕ → Bool) (n : ℕ) {r : Bool} → r ≡ fold (λ ok k. ok && p k) true (range_with_len 0 n) → r ≡ every n p
folded_below p n e =
    e ∙ folded p true (range_with_len 0 n) ∙ ap (λ m. every m (λ k. p (get_or (range_with_len 0 n) k 0))) (length-range_with_len 0 n)
    ∙ every_same n _ p (λ k h. rw (get_or-range_with_len 0 n k 0 h, zero-add) refl)

-- what `all` says of the numbers below n
pub all_below : (r : Bool) (p : ℕ → Bool) (n : ℕ)
    → MatchBool r (AllWithin (λ k. p k ≡ true) (range_with_len 0 n) 0 (length (range_with_len 0 n))) ((k : ℕ) × (k < length (range_with_len 0 n)) × HoldsAt (λ k. p k ≡ false) (range_with_len 0 n) k)
    → r ≡ every n p
all_below true p n h = sym (every_is n p (λ k l. rw (get_or-range_with_len 0 n k 0 l, zero-add) at (h k 0 (omega arith) (omega (arith, length-range_with_len 0 n)))))
all_below false p n (k, l, h) =
    let m : k < n = omega (arith, length-range_with_len 0 n) in
    sym (no_test (every n p) (λ a. not_both (every_at n p a k m) (rw (get_or-range_with_len 0 n k 0 m, zero-add) at (h 0))))
