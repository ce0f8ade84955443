-- Sums over the records of a table: what each counts for. Assumes nothing.
use Prim.Native.Nat.{ℕ, zero, suc, ◌+◌, ◌*◌}
use mathlib.Core.List.{List, [], ◌∷◌, ◌++◌}
use mathlib.Core.Path.{◌≡◌, refl, sym, ap, ◌∙◌}
use native.Mathlib.Nat.{zero-mul, suc-mul, add-mul}
use native.Mathlib.Omega.{arith}
use Rattle.rules.specs.Words.{total, gather, times}
use Rattle.rules.specs.Windows.{Table, instances}
use Rattle.rules.specs.Table.{uses}
use Rattle.rules.specs.Bytes.{Part, bf, wi, ri, writers_below, readers_below, writer_parts, reader_parts, parts_of, parts}
use Rattle.theory.proofs.Sums.{total_add, total_times, uses_all}

-- a signal's record counts for f, that of an instance for b
abbrev pub weight : (ℕ → ℕ) → ℕ → Part → ℕ
weight f b (bf s) = f s
weight f b (wi s k i) = b
weight f b (ri s k i) = b

unfoldable pub weights : (ℕ → ℕ) → ℕ → List Part → ℕ
weights f b [] = 0
weights f b (x ∷ xs) = weight f b x + weights f b xs

module _ (f : ℕ → ℕ) (b : ℕ) where
  append : (xs ys : List Part) → weights f b (xs ++ ys) ≡ weights f b xs + weights f b ys
  unfolding weights
  append [] ys = omega arith
  append (x ∷ xs) ys = omega (arith, append xs ys)

  gathered : (g : ℕ → List Part) (h : ℕ → ℕ) (n : ℕ) → ((k : ℕ) → weights f b (g k) ≡ h k) → weights f b (gather n g) ≡ total h n
  unfolding gather total weights
  gathered g h zero e = refl
  gathered g h (suc n) e = omega (arith, append (gather n g) (g n), gathered g h n e, e n)

  -- so many instances
  used : (one : ℕ → Part) (n : ℕ) → ((i : ℕ) → weight f b (one i) ≡ b) → weights f b (gather n (λ i. one i ∷ [])) ≡ n * b
  unfolding gather weights
  used one zero e = sym (zero-mul b)
  used one (suc n) e = omega (arith, append (gather n (λ i. one i ∷ [])) (one n ∷ []), used one n e, e n, suc-mul n b)

  module _ (tab : Table) where
    uses_of : ℕ → ℕ
    uses_of s = writers_below tab s tab.tasks + readers_below tab s tab.tasks

    signal : (s : ℕ) → weights f b (parts_of tab s) ≡ f s + uses_of s * b
    unfolding uses_of parts_of weights writers_below readers_below
    signal s =
        let w : weights f b (writer_parts tab s) ≡ total (λ k. times (tab.writes s k) (instances tab k)) tab.tasks * b
        = gathered _ _ tab.tasks (λ k. used (wi s k) (times (tab.writes s k) (instances tab k)) (λ i. refl)) ∙ sym (total_times _ b tab.tasks) in
        let r : weights f b (reader_parts tab s) ≡ total (λ k. times (tab.reads s k) (instances tab k)) tab.tasks * b
        = gathered _ _ tab.tasks (λ k. used (ri s k) (times (tab.reads s k) (instances tab k)) (λ i. refl)) ∙ sym (total_times _ b tab.tasks) in
        omega (arith, append (writer_parts tab s) (reader_parts tab s), add-mul (total (λ k. times (tab.writes s k) (instances tab k)) tab.tasks) (total (λ k. times (tab.reads s k) (instances tab k)) tab.tasks) b)

    pub weights_all : weights f b (parts tab) ≡ total f tab.signals + uses tab * b
    unfolding parts uses_of
    weights_all =
        gathered (parts_of tab) _ tab.signals signal
        ∙ total_add f (λ s. uses_of s * b) tab.signals
        ∙ ap (λ (n : ℕ). total f tab.signals + n) (sym (total_times uses_of b tab.signals) ∙ ap (λ (n : ℕ). n * b) (uses_all tab))
