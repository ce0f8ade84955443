-- A table that agrees with one that keeps the rules keeps them too. Assumes nothing.
use Prim.Native.Nat.{ℕ, zero, suc, ◌+◌, ◌*◌, ◌/◌, ◌<◌}
use mathlib.Core.Path.{◌≡◌, refl, ap, ap₂, subst, ◌∙◌}
use native.Mathlib.Omega.{arith}
use lib.Dec.{T}
use Rattle.rules.specs.Words.{total, bit}
use Rattle.rules.specs.Euclid.{lcm_of}
use Rattle.rules.specs.Windows.{Table, lcm_all, hyper, instances, closes}
use Rattle.rules.specs.Table.{accesses_of, accesses, uses, Fits}
use Rattle.theory.specs.TableBytes.{SameTable}
use Rattle.theory.proofs.Sums.{total_mono}

total_below : (f g : ℕ → ℕ) (n : ℕ) → ((k : ℕ) → k < n → f k ≡ g k) → total f n ≡ total g n
total_below f g n e = omega (arith, total_mono f g n (λ k h. omega (arith, e k h)), total_mono g f n (λ k h. omega (arith, e k h)))

lcm_below : (f g : ℕ → ℕ) (n : ℕ) → ((k : ℕ) → k < n → f k ≡ g k) → lcm_all f n ≡ lcm_all g n
unfolding lcm_all
lcm_below f g zero e = refl
lcm_below f g (suc n) e = ap₂ lcm_of (lcm_below f g n (λ k h. e k (omega arith))) (e n (omega arith))

module _ (a b : Table) (S : SameTable a b) where
  pub same_hyper : hyper a ≡ hyper b
  unfolding hyper
  same_hyper = ap (lcm_all a.period) S.tasks ∙ lcm_below a.period b.period b.tasks S.period

  same_instances : (k : ℕ) → k < b.tasks → instances a k ≡ instances b k
  same_instances k h = ap₂ ◌/◌ same_hyper (S.period k h)

  -- a sum over the tasks
  same_total : (f g : ℕ → ℕ) → ((k : ℕ) → k < b.tasks → f k ≡ g k) → total f a.tasks ≡ total g b.tasks
  same_total f g e = ap (total f) S.tasks ∙ total_below f g b.tasks e

  same_accesses : (k : ℕ) → k < b.tasks → accesses_of a k ≡ accesses_of b k
  unfolding accesses_of
  same_accesses k h =
      ap (total (λ s. bit (a.reads s k) + bit (a.writes s k))) S.signals
      ∙ total_below (λ s. bit (a.reads s k) + bit (a.writes s k)) (λ s. bit (b.reads s k) + bit (b.writes s k)) b.signals
      (λ s l. ap₂ ◌+◌ (ap bit (S.reads s k l h)) (ap bit (S.writes s k l h)))

  pub same_fits : Fits b → Fits a
  unfolding accesses uses
  same_fits F =
      let n = S.tasks in
      let m = S.signals in
      record {
        some_task = omega (arith, F.some_task);
        few_tasks = omega (arith, F.few_tasks);
        few_signals = omega (arith, F.few_signals);
        few_accesses = omega (arith, F.few_accesses, same_total (accesses_of a) (accesses_of b) same_accesses);
        window = λ k h. omega (arith, F.window k (omega arith), S.start k (omega arith), S.end k (omega arith));
        within = λ k h. omega (arith, F.within k (omega arith), S.end k (omega arith), S.period k (omega arith));
        short = λ k h. omega (arith, F.short k (omega arith), S.period k (omega arith));
        hyper_short = omega (arith, F.hyper_short, same_hyper);
        few_instances = omega (arith, F.few_instances, same_total (instances a) (instances b) same_instances);
        few_uses = omega (arith, F.few_uses, same_total (λ k. accesses_of a k * instances a k) (λ k. accesses_of b k * instances b k) (λ k h. ap₂ ◌*◌ (same_accesses k h) (same_instances k h)));
        single = single;
      }
    where
      closing : (k i : ℕ) → k < b.tasks → closes a k i ≡ closes b k i
      closing k i h = ap₂ (λ p e. i * p + e) (S.period k h) (S.end k h)

      single : (s : ℕ) → s < a.signals → (k l i j : ℕ) → k < a.tasks → l < a.tasks → T (a.writes s k) → T (a.writes s l) → i < instances a k → j < instances a l → closes a k i ≡ closes a l j → k ≡ l
      single s y k l i j g h v w p q e =
          let n = S.tasks in
          let m = S.signals in
          let y' : s < b.signals = omega arith in
          let g' : k < b.tasks = omega arith in
          let h' : l < b.tasks = omega arith in
          F.single s y' k l i j g' h' (subst T (S.writes s k y' g') v) (subst T (S.writes s l y' h') w) (omega (arith, same_instances k g')) (omega (arith, same_instances l h'))
          (omega (arith, closing k i g', closing l j h'))
