-- What holds after a loop over the numbers below n, or over tasks and signals. Assumes nothing.
use Prim.Native.Nat.{ℕ, zero, suc, ◌≤◌, ◌<◌}
use mathlib.Core.Path.{◌≡◌, refl, ap, ◌∙◌}
use native.Mathlib.Omega.{arith}
use lib.Dec.{eqb}
use borrow.Author.Tests.{eqb-true, eqb-false}
use Rattle.rules.specs.Words.{up_to}
use Rattle.rules.specs.Windows.{Table}
use Rattle.rules.specs.Stores.{sweep}
use Rattle.theory.proofs.Tests.{split}

module _ {A : Type 0} where
  -- what each turn keeps
  pub loop_keeps : (P : A → Type 0) (n : ℕ) (f : ℕ → A → A) (a : A) → ((j : ℕ) (x : A) → j < n → P x → P (f j x)) → P a → P (up_to n f a)
  unfolding up_to
  loop_keeps P zero f a k p = p
  loop_keeps P (suc n) f a k p = k n (up_to n f a) (omega arith) (loop_keeps P n f a (λ j x h. k j x (omega arith)) p)

  -- what turn j brings about out of B, if the turns before it keep B and those after it keep what it brought about
  pub loop_turn : (B P : A → Type 0) (n : ℕ) (f : ℕ → A → A) (a : A) (j : ℕ) → j < n
      → ((i : ℕ) (x : A) → i < n → (i ≡ j → ⊥) → B x → B (f i x))
      → ((x : A) → B x → P (f j x))
      → ((i : ℕ) (x : A) → i < n → (i ≡ j → ⊥) → P x → P (f i x))
      → B a → P (up_to n f a)
  unfolding up_to
  loop_turn B P zero f a j h r b o z = absurd (omega arith)
  loop_turn B P (suc n) f a j h r b o z =
      split (eqb n j)
      (λ q. let e = eqb-true n j q in
      rw e (b (up_to j f a) (loop_keeps B j f a (λ i x l. r i x (omega arith) (λ c. omega arith)) z)))
      (λ q. let e = eqb-false n j q in
      o n (up_to n f a) (omega arith) e (loop_turn B P n f a j (omega arith) (λ i x l. r i x (omega arith)) b (λ i x l. o i x (omega arith)) z))

  -- turns that do the same
  pub loop_same : (n : ℕ) (f g : ℕ → A → A) (a : A) → ((j : ℕ) (x : A) → j < n → f j x ≡ g j x) → up_to n f a ≡ up_to n g a
  unfolding up_to
  loop_same zero f g a e = refl
  loop_same (suc n) f g a e = e n (up_to n f a) (omega arith) ∙ ap (g n) (loop_same n f g a (λ j x h. e j x (omega arith)))

  -- turns from n on that do nothing
  pub loop_trim : (n m : ℕ) (f : ℕ → A → A) (a : A) → n ≤ m → ((j : ℕ) (x : A) → n ≤ j → j < m → f j x ≡ x) → up_to m f a ≡ up_to n f a
  unfolding up_to
  loop_trim n zero f a h e = let z : n ≡ 0 = omega arith in rw z
  loop_trim n (suc m) f a h e =
      split (eqb n (suc m))
      (λ q. rw (eqb-true n (suc m) q))
      (λ q. let z = eqb-false n (suc m) q in e m (up_to m f a) (omega arith) (omega arith) ∙ loop_trim n m f a (omega arith) (λ j x l k. e j x l (omega arith)))

  pub loop_idle : (n : ℕ) (f : ℕ → A → A) (a : A) → ((j : ℕ) (x : A) → j < n → f j x ≡ x) → up_to n f a ≡ a
  unfolding up_to
  loop_idle n f a e = loop_trim 0 n f a (omega arith) (λ j x l. e j x)

  -- turn j alone does something
  pub loop_once : (n : ℕ) (f : ℕ → A → A) (a : A) (j : ℕ) → j < n → ((i : ℕ) (x : A) → i < n → (i ≡ j → ⊥) → f i x ≡ x) → up_to n f a ≡ f j a
  unfolding up_to
  loop_once n f a j h e =
      loop_trim (suc j) n f a h (λ i x l k. e i x k (λ z. omega arith)) ∙ ap (f j) (loop_idle j f a (λ i x k. e i x (omega arith) (λ z. omega arith)))

  -- what is seen of the result, followed turn by turn while P holds
  pub loop_seen : {B : Type 0} (P : A → Type 0) (see : A → B) (g : ℕ → B → B) (n : ℕ) (f : ℕ → A → A) (a : A)
      → ((j : ℕ) (x : A) → j < n → P x → P (f j x) × (see (f j x) ≡ g j (see x))) → P a → see (up_to n f a) ≡ up_to n g (see a)
  unfolding up_to
  loop_seen P see g zero f a h p = refl
  loop_seen P see g (suc n) f a h p =
      (h n (up_to n f a) (omega arith) (loop_keeps P n f a (λ j x l q. (h j x (omega arith) q).0) p)).1
      ∙ ap (g n) (loop_seen P see g n f a (λ j x l. h j x (omega arith)) p)

module _ {A : Type 0} (tab : Table) where
  pub sweep_keeps : (P : A → Type 0) (f : ℕ → ℕ → A → A) (a : A) → ((k s : ℕ) (x : A) → k < tab.tasks → s < tab.signals → P x → P (f k s x)) → P a → P (sweep tab f a)
  sweep_keeps P f a g p = loop_keeps P tab.tasks (λ k. up_to tab.signals (f k)) a (λ k x h. loop_keeps P tab.signals (f k) x (λ s y. g k s y h)) p

  pub sweep_turn : (B P : A → Type 0) (f : ℕ → ℕ → A → A) (a : A) (k s : ℕ) → k < tab.tasks → s < tab.signals
      → ((l r : ℕ) (x : A) → l < tab.tasks → r < tab.signals → (l ≡ k → r ≡ s → ⊥) → B x → B (f l r x))
      → ((x : A) → B x → P (f k s x))
      → ((l r : ℕ) (x : A) → l < tab.tasks → r < tab.signals → (l ≡ k → r ≡ s → ⊥) → P x → P (f l r x))
      → B a → P (sweep tab f a)
  sweep_turn B P f a k s h j g b o z =
      loop_turn B P tab.tasks (λ l. up_to tab.signals (f l)) a k h
      (λ l x i d. loop_keeps B tab.signals (f l) x (λ r y c. g l r y i c (λ u v. d u)))
      (λ x. loop_turn B P tab.signals (f k) x s j (λ r y c d. g k r y h c (λ u v. d v)) b (λ r y c d. o k r y h c (λ u v. d v)))
      (λ l x i d. loop_keeps P tab.signals (f l) x (λ r y c. o l r y i c (λ u v. d u)))
      z
