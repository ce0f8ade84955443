-- Laws of a number as text. Assumes nothing.
use Prim.Native.Nat.{ℕ, zero, suc, ◌-◌, ◌/◌, ◌%◌, ◌≤◌, ◌<◌}
use mathlib.Core.Path.{◌≡◌, refl, sym, ap, ◌∙◌}
use mathlib.Core.List.{List, [], ◌∷◌, ◌++◌}
use native.Mathlib.Omega.{arith}
use borrow.Author.Tests.{lt-ltb, le-ltb}
use Rattle.rules.specs.Listing.{digit, figures}
use Rattle.console.specs.Page.{Page, put_one, put_all, glyph_of}
use Rattle.std.proofs.lemmas.Bool.Decides.{nat_tests}
use Rattle.fields.proofs.Whens.{on, off}
use Rattle.console.proofs.Put.{put_append}

pub put_one_lem : (p : Page) {g d : ℕ} {r : Page} → r ≡ put_one g p → g ≡ d → r ≡ put_one d p
put_one_lem p e f = e ∙ ap (λ (x : ℕ). put_one x p) f

-- a decimal digit
decimal_digit : (d : ℕ) {g : ℕ} → d < 10 → g ≡ glyph_of d → g ≡ digit d
decimal_digit d h k = k ∙ grind (arith, nat_tests)

-- no figures
pub figures_none : (most n : ℕ) (p : Page) → most ≡ 0 → p ≡ put_all (figures most n) p
unfolding figures
figures_none most n p e = sym (ap (λ (k : ℕ). put_all (figures k n) p) e)

-- one figure
pub figures_one : (most n : ℕ) (p : Page) {g : ℕ} {r : Page} → (most ≡ 0 → ⊥) → n < 10 → r ≡ put_one g p → g ≡ glyph_of n → r ≡ put_all (figures most n) p
unfolding figures
figures_one zero n p f h e k = absurd (f refl)
figures_one (suc most) n p f h e k =
    put_one_lem p e (decimal_digit n h k) ∙ sym (ap (λ (l : List ℕ). put_all l p) (on (digit n ∷ []) (figures most (n / 10) ++ digit (n % 10) ∷ []) (lt-ltb n 10 h)))

-- the front figures, and the last
pub figures_more : (most n : ℕ) (p : Page) {g : ℕ} {q r : Page} → (most ≡ 0 → ⊥) → 10 ≤ n → q ≡ put_all (figures (most - 1) (n / 10)) p → r ≡ put_one g q → g ≡ glyph_of (n % 10) → r ≡ put_all (figures most n) p
unfolding figures
figures_more zero n p f h front e k = absurd (f refl)
figures_more (suc most) n p {q = q} f h front e k =
    let less : suc most - 1 ≡ most = omega arith in
    put_one_lem q e (decimal_digit (n % 10) (omega arith) k)
    ∙ ap (put_one (digit (n % 10))) (front ∙ ap (λ (m : ℕ). put_all (figures m (n / 10)) p) less)
    ∙ sym (put_append (figures most (n / 10)) (digit (n % 10) ∷ []) p)
    ∙ sym (ap (λ (l : List ℕ). put_all l p) (off (digit n ∷ []) (figures most (n / 10) ++ digit (n % 10) ∷ []) (le-ltb n 10 h)))
