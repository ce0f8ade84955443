-- A pass over the tasks: none, one task more, and what holds of the whole by what each task keeps.
use mathlib.Core.Path.{◌≡◌, refl, sym, subst}
use mathlib.Core.Logic.{⊎_elim, ◌⊎◌, inl, inr}
use mathlib.Core.Bool.{Bool, true, false}
use Prim.Native.Nat.{ℕ, zero, suc, ◌+◌, ◌≤◌, ◌<◌}
use native.Mathlib.Nat.{eq-or-lt_of_le, le_of_suc-le-suc, le_of_lt, le_refl}
use native.Mathlib.Numerals.{add-one}
use Rattle.rules.specs.Words.{when}
use Rattle.windows.proofs.Windows.{branch}
use Rattle.signals.specs.Pass.{pass}

module _ {A : Type 0} (chosen : ℕ → Bool) (f : ℕ → A → A) (z : A) where
  pub pass_none : z ≡ pass chosen f z 0
  unfolding pass
  pass_none = refl

  -- after one turn of a loop
  pub pass_turn : (n : ℕ) {v r : A} → v ≡ pass chosen f z n → ((chosen n ≡ true) × (r ≡ f n v)) ⊎ ((chosen n ≡ false) × (r ≡ v)) → r ≡ pass chosen f z (n + 1)
  unfolding pass when
  pass_turn n e s = rw (add-one n) (⊎_elim (λ w. simp (w.0, ← e) w.1) (λ w. simp (w.0, ← e) w.1) s)

  -- the same, a lemma for each answer of the choice
  pub pass_chosen : (n : ℕ) → chosen n ≡ true → f n (pass chosen f z n) ≡ pass chosen f z (n + 1)
  pass_chosen n w = pass_turn n refl (inl (w, refl))

  pub pass_other : (n : ℕ) → chosen n ≡ false → pass chosen f z n ≡ pass chosen f z (n + 1)
  pass_other n w = pass_turn n refl (inr (w, refl))

  pub pass_law : (Q : ℕ → A → Type 0) (n : ℕ) → Q 0 z → ((k : ℕ) (a : A) → k < n → Q k a → chosen k ≡ true → Q (suc k) (f k a))
      → ((k : ℕ) (a : A) → k < n → Q k a → chosen k ≡ false → Q (suc k) a) → Q n (pass chosen f z n)
  unfolding pass
  pass_law Q n base step skip = go n (le_refl n)
    where
      go : (m : ℕ) → m ≤ n → Q m (pass chosen f z m)
      go zero l = base
      go (suc m) l =
          let q = go m (le_of_lt l) in
          branch (Q (suc m)) (chosen m) (λ b. step m _ l q b) (λ b. skip m _ l q b)

-- what holds below n, and of n, holds below suc n
pub below_suc : (Q : ℕ → Type 0) (n : ℕ) → ((k : ℕ) → k < n → Q k) → Q n → (k : ℕ) → k < suc n → Q k
below_suc Q n all here k l = ⊎_elim (λ e. subst Q (sym e) here) (λ lt. all k lt) (eq-or-lt_of_le (le_of_suc-le-suc l))

pub ruleset passes = (pass_none, pass_chosen, pass_other)
