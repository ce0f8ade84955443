-- Laws of numbers and bytes that are read. Assumes nothing.
use Prim.Native.Nat.{ℕ, ◌+◌, ◌*◌, ◌≤◌, ◌<◌}
use Rattle.std.specs.Prelude.{Option, Some, None, unwrap_or}
use Rattle.std.proofs.Common.{◌≡◌, refl, sym, ap, ◌∙◌, arith, Bool, true, false, cond, eqb, ltb, not, suc, List, [], ◌∷◌, ◌++◌, length, get_or, drop}
use Rattle.std.proofs.lemmas.Bool.Decides.{nat_tests}
use Rattle.std.proofs.lemmas.List.{at_drop_more, at_drop_all}
use Rattle.std.specs.List.{position_or_len}
use Rattle.console.specs.Steps.{◌>>=◌}
use Rattle.console.specs.Page.{Page, put_one, put_all}
use Rattle.console.specs.Digits.{digit_of, value_of, limited, number_of, pair_of, bytes_of}

after_digit : (d : Option ℕ) (f : ℕ → Option ℕ) (v most : ℕ) → ((w : ℕ) → most < w → (f w >>= limited most) ≡ None) → most < v → ((d >>= λ x. f (v * 10 + x)) >>= limited most) ≡ None
after_digit None f v most e h = refl
after_digit (Some x) f v most e h = e (v * 10 + x) (omega arith)

-- a number above the most stays above it with more digits
too_large : (l : List ℕ) (v most : ℕ) → most < v → (value_of v l >>= limited most) ≡ None
too_large [] v most h = grind (arith, nat_tests)
too_large (b ∷ l) v most h = after_digit (digit_of 10 b) (λ w. value_of w l) v most (λ w k. too_large l w most k) h

-- one or more digits
pub some_digits : (word : List ℕ) (most : ℕ) {b : Bool} → b ≡ eqb (length word) 0 → b ≡ false → (value_of 0 word >>= limited most) ≡ number_of most word
unfolding number_of
some_digits word most e f = sym (ap (λ t. cond t None (value_of 0 word >>= limited most)) (sym e ∙ f))

-- where the digits that are left make of the number so far what all make of none
module _ (word : List ℕ) (i v most : ℕ) (h : i < length word) {whole : Option ℕ} (left : (value_of v (drop i word) >>= limited most) ≡ whole) where
  turn : {d : Option ℕ} → d ≡ digit_of 10 (get_or word i 0) → ((d >>= λ x. value_of (v * 10 + x) (drop (i + 1) word)) >>= limited most) ≡ whole
  turn e = ap (λ d. (d >>= λ x. value_of (v * 10 + x) (drop (i + 1) word)) >>= limited most) e ∙ sym (ap (λ o. o >>= limited most) (at_drop_more (value_of v) word i 0 h)) ∙ left

  pub no_digit : None ≡ digit_of 10 (get_or word i 0) → None ≡ whole
  no_digit e = turn e

  pub above : (d : ℕ) → Some d ≡ digit_of 10 (get_or word i 0) → most < v * 10 + d → None ≡ whole
  above d e k = sym (too_large (drop (i + 1) word) (v * 10 + d) most k) ∙ turn e

-- after the last digit
pub all_read : (word : List ℕ) (i v most : ℕ) {whole r : Option ℕ} → length word ≤ i → (value_of v (drop i word) >>= limited most) ≡ whole → r ≡ limited most v → r ≡ whole
all_read word i v most h left e = e ∙ sym (ap (λ o. o >>= limited most) (at_drop_all (value_of v) word i h)) ∙ left

one_more : (t : Bool) {a b : ℕ} → a ≤ b → cond (not t) (1 + a) 0 ≤ suc b
one_more true h = omega arith
one_more false h = omega arith

pub place_most : (p : ℕ → Bool) (l : List ℕ) → position_or_len p l ≤ length l
place_most p [] = omega arith
place_most p (x ∷ l) = one_more (p x) (place_most p l)

-- the first place of a mark, or the length
pub place_or : (p n : ℕ) → p ≤ n → {o : Option ℕ} {r : ℕ} → o ≡ cond (ltb p n) (Some p) None → r ≡ unwrap_or o n → (r ≡ p) × (r ≤ n)
place_or p n h {o = None} e f = (grind (arith, nat_tests), omega arith)
place_or p n h {o = Some x} e f = (grind (arith, nat_tests), grind (arith, nat_tests))

-- two digits at a time
pub pair_turn : (digits rest : List ℕ) (p : Page) → length digits ≡ 2 → put_all (bytes_of (digits ++ rest)) p ≡ put_all (bytes_of rest) (put_one (pair_of (get_or digits 0 0) (get_or digits 1 0)) p)
unfolding bytes_of
pair_turn (a ∷ b ∷ []) rest p h = refl
pair_turn [] rest p h = absurd (omega arith)
pair_turn (a ∷ []) rest p h = absurd (omega arith)
pair_turn (a ∷ b ∷ c ∷ l) rest p h = absurd (omega arith)

-- a last digit by itself makes no byte
pub pair_end : (rest : List ℕ) → length rest < 2 → bytes_of rest ≡ []
unfolding bytes_of
pair_end [] h = refl
pair_end (a ∷ []) h = refl
pair_end (a ∷ b ∷ r) h = absurd (omega arith)
