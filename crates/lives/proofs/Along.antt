-- Lists gathered along the openings and closings of a hyper-period. Assumes nothing.
use mathlib.Core.Bool.{Bool, true, false, ◌&&◌}
use mathlib.Core.List.{List, [], ◌∷◌, ◌++◌, flat_map, append-nil, append_assoc}
use mathlib.Core.Path.{◌≡◌, refl, sym, ap, ap₂, ◌∙◌}
use Prim.Native.Nat.{ℕ, zero, suc, ◌≤◌, ◌<◌}
use native.Mathlib.Omega.{arith}
use lib.Dec.{eqb}
use lib.ListN.{length, get_or}
use borrow.Author.Tests.{eqb-true, eqb-false}
use Rattle.rules.specs.Words.{gather, only}
use Rattle.rules.specs.Windows.{Table, opens, closes, instance, hyper}
use Rattle.rules.specs.Values.{Value, by, opens_at}
use Rattle.rules.specs.Table.{most_tasks, Fits}
use Rattle.rules.specs.Plan.{writers_of}
use Rattle.theory.specs.Sweep.{closing_number, opening_number, task_in, tick_in, openings_at, closings_after, events}
use Rattle.theory.proofs.Tests.{split}
use Rattle.theory.proofs.Lists.{flat_append, flat_gather}
use Rattle.theory.proofs.Swept.{opening_digits, closing_digits}
use Rattle.lives.specs.Values.{writes_at}

module _ {A : Type 0} where
  -- more of them go on where fewer end
  pub gather_more : (f : ℕ → List A) (n m : ℕ) → n ≤ m → (rest : List A) × (gather m f ≡ gather n f ++ rest)
  unfolding gather
  gather_more f n zero h = let e : n ≡ 0 = omega arith in ([], rw e)
  gather_more f n (suc m) h =
      split (eqb n (suc m))
      (λ q. ([], rw (eqb-true n (suc m) q) (sym (append-nil (gather m f ++ f m)))))
      (λ q. let z = eqb-false n (suc m) q in
      let (rest, e) = gather_more f n m (omega arith) in
      (rest ++ f m, ap (λ (l : List A). l ++ f m) e ∙ append_assoc (gather n f) rest (f m)))

  pub gather_same : (f g : ℕ → List A) (n : ℕ) → ((k : ℕ) → k < n → f k ≡ g k) → gather n f ≡ gather n g
  unfolding gather
  gather_same f g zero h = refl
  gather_same f g (suc n) h = ap₂ (λ (x y : List A). x ++ y) (gather_same f g n (λ k l. h k (omega arith))) (h n (omega arith))

  -- the first one apart
  gather_first : (f : ℕ → List A) (n : ℕ) → gather (suc n) f ≡ f 0 ++ gather n (λ k. f (suc k))
  unfolding gather
  gather_first f zero = sym (append-nil (f 0))
  gather_first f (suc n) = ap (λ (l : List A). l ++ f (suc n)) (gather_first f n) ∙ append_assoc (f 0) (gather n (λ k. f (suc k))) (f (suc n))

  -- a list taken number by number
  pub gather_list : (f : ℕ → List A) (xs : List ℕ) → gather (length xs) (λ i. f (get_or xs i 0)) ≡ flat_map f xs
  unfolding gather flat_map
  gather_list f [] = refl
  gather_list f (x ∷ xs) = gather_first (λ i. f (get_or (x ∷ xs) i 0)) (length xs) ∙ ap {B = List A} (λ l. f x ++ l) (gather_list f xs)

  flat_only : (f : ℕ → List A) (b : Bool) (x : ℕ) → f x ≡ [] → flat_map f (only b x) ≡ []
  unfolding flat_map
  flat_only f true x e = rw e
  flat_only f false x e = refl

  none_gathered : (n : ℕ) → gather {A = A} n (λ k. []) ≡ []
  unfolding gather
  none_gathered zero = refl
  none_gathered (suc n) = append-nil (gather n (λ k. [])) ∙ none_gathered n

-- the writer instances of signal s are those that the openings along the hyper-period open
module _ (tab : Table) (F : Fits tab) (s : ℕ) where
  -- the value that event number n opens
  abbrev pub opened_by : ℕ → Value
  opened_by n = by s (task_in n) (instance tab (task_in n) (tick_in n))

  abbrev pub opened : ℕ → List Value
  opened n = only (writes_at (tab.writes s) n) (opened_by n)

  at_opening : (t k : ℕ) → k < most_tasks → opened (opening_number t k) ≡ only (tab.writes s k) (by s k (instance tab k t))
  at_opening t k h = let d = opening_digits t k h in rw (d.0, d.1, d.2)

  at_closing : (t k : ℕ) → k < most_tasks → opened (closing_number t k) ≡ []
  at_closing t k h = rw (closing_digits t k h).0

  both_tests : (a b : Bool) (n : ℕ) (v : Value) → opened n ≡ only b v → flat_map opened (only a n) ≡ only (b && a) v
  unfolding flat_map
  both_tests true true n v e = rw e
  both_tests true false n v e = rw e
  both_tests false true n v e = refl
  both_tests false false n v e = refl

  openings : (t : ℕ) → flat_map opened (openings_at tab t) ≡ gather tab.tasks (λ k. only (opens_at tab t s k) (by s k (instance tab k t)))
  unfolding opens_at
  openings t =
      flat_gather opened _ _ tab.tasks (λ k. refl)
      ∙ gather_same _ _ tab.tasks (λ k h. both_tests (eqb (opens tab k (instance tab k t)) t) (tab.writes s k) (opening_number t k) (by s k (instance tab k t)) (at_opening t k (omega (arith, F.few_tasks))))

  closings : (t : ℕ) → flat_map opened (closings_after tab t) ≡ []
  closings t =
      flat_gather opened _ _ tab.tasks (λ k. refl)
      ∙ gather_same _ (λ k. []) tab.tasks (λ k h. flat_only opened (eqb (closes tab k (instance tab k t)) (suc t)) (closing_number (suc t) k) (at_closing (suc t) k (omega (arith, F.few_tasks))))
      ∙ none_gathered tab.tasks

  pub opened_all : gather (length (events tab)) (λ i. opened (get_or (events tab) i 0)) ≡ writers_of tab s
  unfolding events writers_of
  opened_all =
      gather_list opened (events tab)
      ∙ flat_gather opened (λ t. openings_at tab t ++ closings_after tab t) _ (hyper tab) (λ t. refl)
      ∙ gather_same _ _ (hyper tab) (λ t h. flat_append opened (openings_at tab t) (closings_after tab t) ∙ ap₂ (λ (x y : List Value). x ++ y) (openings t) (closings t) ∙ append-nil _)
