-- The greatest common divisor of a and b is the difference of a multiple of the one and a multiple of the other, either way round.
use mathlib.Core.Path.{◌≡◌, ap, ◌∙◌}
use mathlib.Core.Logic.{⊎_elim}
use Prim.Native.Nat.{ℕ, zero, suc, ◌+◌, ◌*◌, ◌/◌, ◌%◌, ◌<◌}
use native.Mathlib.Nat.{div-add-mod', eq-zero-or-pos, not-suc-le-zero}
use native.Mathlib.Omega.{arith}
use Rattle.rules.specs.Euclid.{gcd_of}
use Rattle.theory.proofs.Euclid.{gcd_zero, gcd_rule, by_rule}

abbrev pub Over : ℕ → ℕ → ℕ → Type 0
Over a b g = (x : ℕ) × (y : ℕ) × (a * x ≡ b * y + g)

-- with q the quotient and r the remainder of a by b
module _ (a b q r g : ℕ) (e : q * b + r ≡ a) where
  from_remainder : Over r b g → Over a b g
  from_remainder p = (p.0, q * p.0 + p.1, omega (arith, ap (λ (z : ℕ). z * p.0) e, p.2))

  past_remainder : Over b r g → Over b a g
  past_remainder p = (p.0 + q * p.1, p.1, omega (arith, ap (λ (z : ℕ). z * p.1) e, p.2))

no_remainder : (a b q r : ℕ) → q * b + r ≡ a → r ≡ 0 → 0 < a → Over a b b
no_remainder a b zero r e z p = absurd (omega arith)
no_remainder a b (suc q) r e z p = (1, q, omega arith)

pub bezout : (a b : ℕ) → (0 < a → Over a b (gcd_of a b)) × (0 < b → Over b a (gcd_of a b))
bezout =
    by_rule (λ a b. (0 < a → Over a b (gcd_of a b)) × (0 < b → Over b a (gcd_of a b)))
    (λ a. ((λ p. (1, 0, omega (arith, gcd_zero a))), λ p. absurd (not-suc-le-zero p)))
    (λ a b h. step a b (div-add-mod' a (suc b)) h)
  where
    step : (a b : ℕ) → a / suc b * suc b + a % suc b ≡ a
        → (0 < suc b → Over (suc b) (a % suc b) (gcd_of (suc b) (a % suc b))) × (0 < a % suc b → Over (a % suc b) (suc b) (gcd_of (suc b) (a % suc b)))
        → (0 < a → Over a (suc b) (gcd_of a (suc b))) × (0 < suc b → Over (suc b) a (gcd_of a (suc b)))
    step a b e h =
        let B : ℕ = suc b in
        let g : gcd_of a B ≡ gcd_of B (a % B) = gcd_rule a B (λ z. omega arith) in
        rw g (
          (λ p. ⊎_elim
              (λ (z : a % B ≡ 0). rw (ap (gcd_of B) z ∙ gcd_zero B) (no_remainder a B (a / B) (a % B) e z p))
              (λ q. from_remainder a B (a / B) (a % B) (gcd_of B (a % B)) e (h.1 q))
              (eq-zero-or-pos (a % B))),
          λ p. past_remainder a B (a / B) (a % B) (gcd_of B (a % B)) e (h.0 p),
        )
