-- Taking the lesser of two in turn finds the least of some numbers. Assumes nothing.
use denote.Param.Members.{Mut}
use denote.Ref.{Bor}
use mathlib.Core.List.{List, [], ◌∷◌}
use mathlib.Core.Path.{◌≡◌, refl, ap, subst, ◌∙◌}
use Prim.Native.Nat.{ℕ, zero, suc, ◌+◌, ◌≤◌, ◌<◌}
use native.Mathlib.Omega.{arith}
use lib.Dec.{eqb}
use lib.ListN.{get_or}
use borrow.Author.Tests.{eqb-true, eqb-false}
use Rattle.std.proofs.Common.{Ordering, Less, Equal, Greater}
use Rattle.std.proofs.lemmas.Cmp.{ranked}
use Rattle.std.proofs.lemmas.Iterator.{YieldsList}
use Rattle.std.proofs.lemmas.Iterator.Consumers.{reduce_from_yields_List}
use Rattle.std.specs.Fn.{CalledAtTwo}
use Rattle.std.specs.Iterator.{PickTurn, PicksByCall}
use Rattle.std.specs.List.{FoldsTo, fold, reduce, range_with_len}
use Rattle.std.specs.Option.{unwrap_or}
use Rattle.std.specs.Ordering.{nat_cmp, min_by_ordering}
use Rattle.std.specs.Prelude.{Option, Some, None}
use Rattle.theory.proofs.Tests.{split}
use Rattle.events.specs.Order.{Leads}

-- of two places the one of the lesser number, and the first where they are equal
abbrev lesser : List ℕ → ℕ → ℕ → ℕ
lesser next j k = min_by_ordering (nat_cmp (get_or next j 0) (get_or next k 0)) j k

leads_one : (next : List ℕ) → Leads next 1 0
leads_one next = record { one = omega arith; low = λ j h. let e : j ≡ 0 = omega arith in rw e (omega arith) }

leads_more : (next : List ℕ) (k b : ℕ) → Leads next k b → Leads next (k + 1) (lesser next b k)
leads_more next k b L = more (nat_cmp (get_or next b 0) (get_or next k 0)) refl
  where
    at : {x : ℕ} (j : ℕ) → j < k + 1 → x ≤ get_or next k 0 → (j < k → x ≤ get_or next j 0) → x ≤ get_or next j 0
    at j h a f = split (eqb j k) (λ q. rw (eqb-true j k q) a) (λ q. let z = eqb-false j k q in f (omega arith))

    stays : get_or next b 0 ≤ get_or next k 0 → Leads next (k + 1) b
    stays l = record { one = omega (arith, L.one); low = λ j h. at j h l (λ m. L.low j m) }

    more : (o : Ordering) → o ≡ nat_cmp (get_or next b 0) (get_or next k 0) → Leads next (k + 1) (min_by_ordering o b k)
    more Less e = stays (omega (arith, ranked (get_or next b 0) (get_or next k 0) Less e))
    more Equal e = stays (omega (arith, ranked (get_or next b 0) (get_or next k 0) Equal e))
    more Greater e =
        let l = ranked (get_or next b 0) (get_or next k 0) Greater e in
        record { one = omega arith; low = λ j h. at j h (omega arith) (λ m. omega (arith, L.low j m, l)) }

leads_on : (next : List ℕ) (n k b : ℕ) → Leads next k b → Leads next (k + n) (fold (lesser next) b (range_with_len k n))
leads_on next zero k b L = let e : k + 0 ≡ k = omega arith in rw e L
leads_on next (suc n) k b L = let e : k + suc n ≡ k + 1 + n = omega arith in rw e (leads_on next n (k + 1) (lesser next b k) (leads_more next k b L))

leads_all : (next : List ℕ) (n : ℕ) {r : Option ℕ} {k : ℕ} → 1 ≤ n → r ≡ reduce (lesser next) (range_with_len 0 n) → k ≡ unwrap_or r 0 → Leads next n k
leads_all next zero h e u = absurd (omega arith)
leads_all next (suc n) h e u = let z : suc n ≡ 1 + n = omega arith in rw (u, e, z) (leads_on next n 1 0 (leads_one next))

-- a closure that compares the numbers at two places
abbrev Compares : {F : Type 0} → Mut F (Bor ℕ × (Bor ℕ × Unit {0})) Ordering → F → List ℕ → Type 0
Compares {F} g f next = (j k : ℕ) (o : Ordering) (q : F) → CalledAtTwo g f j k o q → (q ≡ f) × (o ≡ nat_cmp (get_or next j 0) (get_or next k 0))

module _ {F : Type 0} (g : Mut F (Bor ℕ × (Bor ℕ × Unit {0})) Ordering) (f : F) (next : List ℕ) where
  turns : Compares g f next → (b : ℕ) (ks : List ℕ) (q : F) (r : ℕ) → FoldsTo {P = F × ℕ} (PickTurn min_by_ordering g) (f, b) ks (q, r) → FoldsTo (λ p z c. c ≡ lesser next p z) b ks r
  turns C b [] q r t = ap (λ (p : F × ℕ). p.1) t
  turns C b (k ∷ ks) q r ((h, c), (o, called, picked), t) =
      let a = C b k o h called in
      (c, picked ∙ ap (λ o. min_by_ordering o b k) a.1, turns C c ks q r (subst (λ h. FoldsTo {P = F × ℕ} (PickTurn min_by_ordering g) (h, c) ks (q, r)) a.0 t))

  taken : {S : Type 0} {steps : S → Option ℕ → S → Type 0} (s : S) (r : Option ℕ) (all : List ℕ) → YieldsList steps (λ x. x) s all → PicksByCall steps min_by_ordering g s f r → Compares g f next → r ≡ reduce (lesser next) all
  taken s None all y e C = reduce_from_yields_List (lesser next) s None e y
  taken s (Some b) all y (k, ks, q, d, t) C = reduce_from_yields_List (lesser next) s (Some b) (k, ks, d, turns C k ks q b t) y

  -- finds the place of the least of the first n
  pub least_by : {S : Type 0} {steps : S → Option ℕ → S → Type 0} {s : S} (r : Option ℕ) {n k : ℕ} → 1 ≤ n → YieldsList steps (λ x. x) s (range_with_len 0 n) → PicksByCall steps min_by_ordering g s f r → k ≡ unwrap_or r 0 → Compares g f next → Leads next n k
  least_by {s = s} r {n} h y e u C = leads_all next n h (taken s r (range_with_len 0 n) y e C) u
