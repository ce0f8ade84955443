-- A list of records walked one after the other: none, one turn of a loop, and a loop that is left early.
use mathlib.Core.Path.{◌≡◌, refl, sym, ap, ◌∙◌}
use mathlib.Core.List.{List, [], ◌∷◌, ◌++◌}
use mathlib.Core.Logic.{⊎_elim}
use Prim.Native.Nat.{ℕ, zero, suc, ◌+◌, ◌<◌}
use native.Mathlib.Nat.{eq-or-lt_of_le, le_of_suc-le-suc, not-suc-le-zero}
use native.Mathlib.Numerals.{add-one}
use Rattle.rules.specs.Words.{gather}
use Rattle.form.specs.Form.{walked}

module _ {A S : Type 0} (f : A → S → S) where
  pub walked_append : (xs ys : List A) (s : S) → walked f (xs ++ ys) s ≡ walked f ys (walked f xs s)
  unfolding walked
  walked_append [] ys s = refl
  walked_append (x ∷ xs) ys s = walked_append xs ys (f x s)

  pub walked_none : (g : ℕ → List A) (s : S) → s ≡ walked f (gather 0 g) s
  unfolding walked gather
  walked_none g s = refl

  pub walked_one : (x : A) (s : S) → walked f (x ∷ []) s ≡ f x s
  unfolding walked
  walked_one x s = refl

  pub walked_first : (x : A) (xs : List A) (s : S) → walked f (x ∷ xs) s ≡ walked f xs (f x s)
  unfolding walked
  walked_first x xs s = refl

  -- one list after another
  pub walked_then : (xs ys : List A) (s : S) {t r : S} → t ≡ walked f xs s → r ≡ walked f ys t → r ≡ walked f (xs ++ ys) s
  walked_then xs ys s e h = h ∙ ap (walked f ys) e ∙ sym (walked_append xs ys s)

  walked_more : (g : ℕ → List A) (n : ℕ) (s : S) → walked f (gather (suc n) g) s ≡ walked f (g n) (walked f (gather n g) s)
  unfolding gather
  walked_more g n s = walked_append (gather n g) (g n) s

  -- one turn of a loop
  pub walked_turn : (g : ℕ → List A) (n : ℕ) (s : S) {t r : S} → t ≡ walked f (gather n g) s → r ≡ walked f (g n) t → r ≡ walked f (gather (n + 1) g) s
  walked_turn g n s e h = h ∙ ap (walked f (g n)) e ∙ sym (walked_more g n s) ∙ ap (λ m. walked f (gather m g) s) (sym (add-one n))

  -- what no record changes
  pub walked_stays : (s : S) → ((x : A) → f x s ≡ s) → (xs : List A) → walked f xs s ≡ s
  unfolding walked
  walked_stays s h [] = refl
  walked_stays s h (x ∷ xs) = ap (walked f xs) (h x) ∙ walked_stays s h xs

  pub walked_past : (xs ys : List A) (s t : S) → ((x : A) → f x t ≡ t) → t ≡ walked f xs s → t ≡ walked f (xs ++ ys) s
  walked_past xs ys s t h e = walked_then xs ys s e (sym (walked_stays t h ys))

  -- after a turn that reaches such a state the other turns may be left out
  pub walked_stopped : (g : ℕ → List A) (n m : ℕ) (s t : S) → ((x : A) → f x t ≡ t) → n < m → t ≡ walked f (gather (n + 1) g) s → t ≡ walked f (gather m g) s
  walked_stopped g n zero s t h l e = absurd (not-suc-le-zero l)
  walked_stopped g n (suc m) s t h l e =
      ⊎_elim
      (λ q. e ∙ ap (λ k. walked f (gather k g) s) (add-one n ∙ ap suc q))
      (λ q. sym (walked_stays t h (g m)) ∙ ap (walked f (g m)) (walked_stopped g n m s t h q e) ∙ sym (walked_more g m s))
      (eq-or-lt_of_le (le_of_suc-le-suc l))
