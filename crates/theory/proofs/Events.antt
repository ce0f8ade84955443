-- The openings and closings of a hyper-period in their order: they rise, each is there, and they are two for each instance. Assumes nothing.
use mathlib.Core.Bool.{Bool, true, false≢true}
use mathlib.Core.List.{List, [], ◌∷◌, ◌++◌}
use mathlib.Core.Logic.{◌⊎◌, inl, inr, ⊎_elim}
use mathlib.Core.Path.{◌≡◌, refl, sym, ap, ap₂, subst, ◌∙◌}
use Prim.Native.Nat.{ℕ, zero, suc, ◌+◌, ◌*◌, ◌≤◌, ◌<◌}
use native.Mathlib.Omega.{arith}
use lib.Dec.{eqb}
use lib.ListN.{length, length-append}
use borrow.Author.Tests.{eqb-true, eq-eqb}
use Rattle.rules.specs.Words.{gather, only, total}
use Rattle.rules.specs.Windows.{Table, opens, closes, instance, instances, hyper}
use Rattle.rules.specs.Table.{most_tasks, Fits}
use Rattle.theory.specs.Sweep.{closing_number, opening_number, openings_at, closings_after, events}
use Rattle.theory.proofs.Tests.{or_cases, or_left, or_right, no_test}
use Rattle.theory.proofs.Lists.{In, in_left, in_right, in_gather, in_only, All, all_in, all_append, all_gather, all_only, Rising, rising_append, rising_gather, rising_only}
use Rattle.theory.proofs.Pigeonhole.{has, Distinct, pigeonhole}
use Rattle.theory.proofs.Sums.{total_same, total_times}
use Rattle.theory.proofs.Time.{instance_is, instance_lt, closes_le}

-- ---- numbers that rise

abbrev pub itself : ℕ → ℕ
itself n = n

-- the numbers rise, from lo on and below hi
abbrev pub Up : ℕ → List ℕ → ℕ → Type 0
Up = Rising itself

up_le : (lo hi : ℕ) (xs : List ℕ) → Up lo xs hi → lo ≤ hi
up_le lo hi [] r = r
up_le lo hi (x ∷ xs) r = omega (arith, up_le (suc x) hi xs r.1)

pub up_wider : (lo hi top : ℕ) (xs : List ℕ) → hi ≤ top → Up lo xs hi → Up lo xs top
up_wider lo hi top [] h r = omega arith
up_wider lo hi top (x ∷ xs) h r = (r.0, up_wider (suc x) hi top xs h r.1)

up_above : (lo hi : ℕ) (xs : List ℕ) → Up lo xs hi → (v : ℕ) → In v xs → lo ≤ v
up_above lo hi [] r v h = absurd h
up_above lo hi (x ∷ xs) r v (inl e) = omega (arith, r.0)
up_above lo hi (x ∷ xs) r v (inr h) = omega (arith, r.0, up_above (suc x) hi xs r.1 v h)

-- two lists that rise and have the same numbers are one
pub up_one : (lo hi ro ri : ℕ) (xs ys : List ℕ) → Up lo xs hi → Up ro ys ri → ((v : ℕ) → In v xs → In v ys) → ((v : ℕ) → In v ys → In v xs) → xs ≡ ys
up_one lo hi ro ri [] [] r q f g = refl
up_one lo hi ro ri [] (y ∷ ys) r q f g = absurd (g y (inl refl))
up_one lo hi ro ri (x ∷ xs) [] r q f g = absurd (f x (inl refl))
up_one lo hi ro ri (x ∷ xs) (y ∷ ys) r q f g =
    let a = up_above (suc x) hi xs r.1 in
    let b = up_above (suc y) ri ys q.1 in
    let e : x ≡ y =
    ⊎_elim (λ z. sym z) (λ h. ⊎_elim (λ z. z) (λ k. absurd (omega (arith, a y k, b x h))) (g y (inl refl))) (f x (inl refl)) in
    ap₂ ◌∷◌ e (up_one (suc x) hi (suc y) ri xs ys r.1 q.1
    (λ v h. ⊎_elim (λ z. absurd (omega (arith, a v h))) (λ k. k) (f v (inr h)))
    (λ v h. ⊎_elim (λ z. absurd (omega (arith, b v h))) (λ k. k) (g v (inr h))))

-- ---- they stand in no longer list

has_in : (v : ℕ) (xs : List ℕ) → has v xs ≡ true → In v xs
unfolding has
has_in v [] h = false≢true h
has_in v (x ∷ xs) h = ⊎_elim (λ q. inl (sym (eqb-true v x q))) (λ q. inr (has_in v xs q)) (or_cases (eqb v x) (has v xs) h)

in_has : (v : ℕ) (xs : List ℕ) → In v xs → has v xs ≡ true
unfolding has
in_has v [] h = absurd h
in_has v (x ∷ xs) (inl e) = or_left (eqb v x) (has v xs) (eq-eqb v x (sym e))
in_has v (x ∷ xs) (inr h) = or_right (eqb v x) (has v xs) (in_has v xs h)

up_distinct : (lo hi : ℕ) (xs : List ℕ) → Up lo xs hi → Distinct xs
up_distinct lo hi [] r = tt
up_distinct lo hi (x ∷ xs) r = (no_test (has x xs) (λ h. let z = up_above (suc x) hi xs r.1 x (has_in x xs h) in omega arith), up_distinct (suc x) hi xs r.1)

up_fewer : (lo hi : ℕ) (xs ys : List ℕ) → Up lo xs hi → ((v : ℕ) → In v xs → In v ys) → length xs ≤ length ys
up_fewer lo hi xs ys r f = pigeonhole xs ys (up_distinct lo hi xs r) (λ z h. in_has z ys (f z (has_in z xs h)))

length_gather : (n : ℕ) (f : ℕ → List ℕ) → length (gather n f) ≡ total (λ k. length (f k)) n
unfolding gather total
length_gather zero f = refl
length_gather (suc n) f = length-append (gather n f) (f n) ∙ ap (λ x. x + length (f n)) (length_gather n f)

total_const : (n c : ℕ) → total (λ k. c) n ≡ n * c
unfolding total
total_const zero c = omega arith
total_const (suc n) c = omega (arith, total_const n c)

-- ---- openings and closings

module _ (tab : Table) where
  -- n is the number of an opening or closing of instance i of task k
  abbrev pub Numbers : ℕ → ℕ → ℕ → Type 0
  Numbers k i n = (n ≡ opening_number (opens tab k i) k) ⊎ (n ≡ closing_number (closes tab k i) k)

  -- and instance i is one of the hyper-period
  abbrev pub IsEvent : ℕ → Type 0
  IsEvent n = (k : ℕ) × (i : ℕ) × (k < tab.tasks) × (i < instances tab k) × Numbers k i n

  module _ (F : Fits tab) where
    pub events_up : Up most_tasks (events tab) (most_tasks + hyper tab * (2 * most_tasks))
    unfolding events
    events_up =
        rising_gather itself most_tasks (2 * most_tasks) (λ t. openings_at tab t ++ closings_after tab t) (hyper tab) (λ t l.
        let lo : ℕ = most_tasks + t * (2 * most_tasks) in
        rising_append itself lo (lo + most_tasks) (most_tasks + suc t * (2 * most_tasks)) (openings_at tab t) (closings_after tab t)
        (each lo (lo + most_tasks) (λ k. eqb (opens tab k (instance tab k t)) t) (opening_number t) (omega arith) (λ k. omega arith))
        (each (lo + most_tasks) (most_tasks + suc t * (2 * most_tasks)) (λ k. eqb (closes tab k (instance tab k t)) (suc t)) (closing_number (suc t)) (omega arith) (λ k. omega arith)))
      where
        each : (lo hi : ℕ) (test : ℕ → Bool) (number : ℕ → ℕ) → lo + most_tasks ≤ hi → ((k : ℕ) → number k ≡ lo + k) → Up lo (gather tab.tasks (λ k. only (test k) (number k))) hi
        each lo hi test number h e =
            up_wider lo (lo + tab.tasks * 1) hi (gather tab.tasks (λ k. only (test k) (number k))) (omega (arith, F.few_tasks))
            (rising_gather itself lo 1 (λ k. only (test k) (number k)) tab.tasks (λ k l.
            subst (λ x. Up (lo + k * 1) (only (test k) (number k)) x) (omega arith)
            (rising_only itself (lo + k * 1) (test k) (number k) (λ o. omega (arith, e k)))))

    pub events_all : All IsEvent (events tab)
    unfolding events
    events_all =
        all_gather IsEvent _ (hyper tab) (λ t l. all_append IsEvent (openings_at tab t) (closings_after tab t)
        (all_gather IsEvent _ tab.tasks (λ k h. all_only IsEvent (eqb (opens tab k (instance tab k t)) t) (opening_number t k) (λ o.
        (k, instance tab k t, h, instance_lt tab F k t h l, inl (ap (λ x. opening_number x k) (sym (eqb-true (opens tab k (instance tab k t)) t o)))))))
        (all_gather IsEvent _ tab.tasks (λ k h. all_only IsEvent (eqb (closes tab k (instance tab k t)) (suc t)) (closing_number (suc t) k) (λ o.
        (k, instance tab k t, h, instance_lt tab F k t h l, inr (ap (λ x. closing_number x k) (sym (eqb-true (closes tab k (instance tab k t)) (suc t) o))))))))

    pub events_in : (n : ℕ) → IsEvent n → In n (events tab)
    unfolding events
    events_in n (k, i, h, l, inl e) =
        let t = opens tab k i in
        let j : instance tab k t ≡ i = instance_is tab F k i t h (omega arith) (omega (arith, F.window k h)) in
        in_gather n (λ t. openings_at tab t ++ closings_after tab t) (hyper tab) t (omega (arith, F.window k h, closes_le tab F k i h l))
        (in_left n (openings_at tab t) (closings_after tab t)
        (in_gather n (λ k. only (eqb (opens tab k (instance tab k t)) t) (opening_number t k)) tab.tasks k h
        (rw (j, e) (in_only (opening_number t k) (eqb (opens tab k i) t) (eq-eqb (opens tab k i) t refl)))))
    events_in n (k, i, h, l, inr e) = at (closes tab k i) refl
      where
        at : (c : ℕ) → closes tab k i ≡ c → In n (events tab)
        at zero q = absurd (omega (arith, F.window k h))
        at (suc t) q =
            let j : instance tab k t ≡ i = instance_is tab F k i t h (omega (arith, F.window k h)) (omega arith) in
            in_gather n (λ t. openings_at tab t ++ closings_after tab t) (hyper tab) t (omega (arith, closes_le tab F k i h l))
            (in_right n (openings_at tab t) (closings_after tab t)
            (in_gather n (λ k. only (eqb (closes tab k (instance tab k t)) (suc t)) (closing_number (suc t) k)) tab.tasks k h
            (rw (j, e, q) (in_only (closing_number (suc t) k) (eqb (suc t) (suc t)) (eq-eqb (suc t) (suc t) refl)))))

    -- what rises and has all of them and nothing else is their list
    pub events_are : (lo hi : ℕ) (xs : List ℕ) → Up lo xs hi → All IsEvent xs → ((n : ℕ) → IsEvent n → In n xs) → xs ≡ events tab
    events_are lo hi xs r a f =
        up_one lo hi most_tasks (most_tasks + hyper tab * (2 * most_tasks)) xs (events tab) r events_up
        (λ v h. events_in v (all_in IsEvent xs a v h)) (λ v h. f v (all_in IsEvent (events tab) events_all v h))

    -- two for each instance
    pub few_events : (lo hi : ℕ) (xs : List ℕ) → Up lo xs hi → All IsEvent xs → length xs ≤ total (instances tab) tab.tasks * 2
    few_events lo hi xs r a =
        let n = length_gather tab.tasks (λ k. both k) in
        let e : total (λ k. length (both k)) tab.tasks ≡ total (instances tab) tab.tasks * 2 =
        total_same (λ k. length (both k)) (λ k. instances tab k * 2) tab.tasks (λ k. length_gather (instances tab k) _ ∙ total_const (instances tab k) 2) ∙ sym (total_times (instances tab) 2 tab.tasks) in
        omega (arith, up_fewer lo hi xs (gather tab.tasks both) r (λ v h. within v (all_in IsEvent xs a v h)))
      where
        both : ℕ → List ℕ
        both k = gather (instances tab k) (λ i. opening_number (opens tab k i) k ∷ closing_number (closes tab k i) k ∷ [])

        within : (v : ℕ) → IsEvent v → In v (gather tab.tasks both)
        within v (k, i, h, l, c) = in_gather v both tab.tasks k h (in_gather v _ (instances tab k) i l (⊎_elim (λ e. inl (sym e)) (λ e. inr (inl (sym e))) c))
