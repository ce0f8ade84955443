-- One pass over the tasks 0 to n - 1: what was found so far is changed at each task that is chosen. Assumes nothing.
use Rattle.std.specs.Prelude.{Bool, ℕ, zero, suc}
use Rattle.rules.specs.Words.{when}

unfoldable pub pass : {A : Type 0} → (ℕ → Bool) → (ℕ → A → A) → A → ℕ → A
pass chosen f z zero = z
pass chosen f z (suc n) = when (chosen n) (f n (pass chosen f z n)) (pass chosen f z n)
