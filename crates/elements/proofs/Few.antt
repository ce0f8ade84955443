-- The element that stands, those that the tasks took last and the count of a signal are small, in whatever table. Assumes nothing.
use mathlib.Core.Bool.{Bool, true, false, cond}
use mathlib.Core.List.{List, [], ◌∷◌}
use mathlib.Core.Path.{◌≡◌, sym, subst}
use Prim.Native.Nat.{ℕ, zero, suc, ◌-◌, ◌≤◌, ◌<◌}
use native.Mathlib.Omega.{arith}
use lib.ListN.{get_or, set, take, length-take}
use Rattle.rules.specs.Windows.{Table}
use Rattle.rules.specs.Table.{most_tasks, most_elements}
use Rattle.rules.specs.Schedule.{most}
use Rattle.theory.specs.Sweep.{task_in, tick_in, is_opening, events, through, opened, closed, acted}
use Rattle.theory.specs.Chosen.{Choice, free_element, sent, taken, followed, reads, takes, publishes, choose, unchosen, chosen}
use Rattle.theory.proofs.Untils.{first_within}
use Rattle.theory.proofs.Linear.{nothing_held}

set_any : (P : ℕ → Type 0) (l : List ℕ) (k e j : ℕ) → P e → P (get_or l j 0) → P (get_or (set l k e) j 0)
set_any P [] k e j a b = b
set_any P (x ∷ xs) zero e zero a b = a
set_any P (x ∷ xs) zero e (suc j) a b = b
set_any P (x ∷ xs) (suc k) e zero a b = b
set_any P (x ∷ xs) (suc k) e (suc j) a b = set_any P xs k e j a b

pub record Low (c : Choice) : Type 0 where
  pub current : c.current < most_elements
  pub own : (k : ℕ) → get_or c.own k 0 < most_elements
  pub count : c.count ≤ most_elements

free_low : (tab : Table) (held : List ℕ) (t : ℕ) → free_element tab held t < most_elements
free_low tab held t = omega (arith, first_within (take (most tab - 1) held) t, length-take (most tab - 1) held)

low_sent : (c : Choice) (u b : ℕ) → Low c → Low (sent c u b)
low_sent c u b L = record { current = L.current; own = L.own; count = L.count }

low_taken : (c : Choice) (u k e : ℕ) → e < most_elements → Low c → Low (taken c u k e)
low_taken c u k e h L = record { current = L.current; own = λ j. set_any (λ x. x < most_elements) c.own k e j h (L.own j); count = omega (arith, L.count) }

low_followed : (c : Choice) (k b : ℕ) → Low c → Low (followed c k b)
low_followed c k b L = record { current = L.own k; own = L.own; count = L.count }

low_if : (b : Bool) (c d : Choice) → Low c → Low d → Low (cond b c d)
low_if true c d L M = L
low_if false c d L M = M

low_choose : (tab : Table) (s : ℕ) (c : Choice) (n : ℕ) → Low c → Low (choose tab s c n)
unfolding acted
low_choose tab s c n L =
    let t = tick_in n in
    let k = task_in n in
    let d = cond (tab.reads s k) (reads tab s c k t) c in
    let M : Low d = low_if (tab.reads s k) (reads tab s c k t) c (low_sent c _ _ L) L in
    low_if (is_opening n) (opened tab s (reads tab s) (takes tab s) c k t) (closed tab s (publishes tab s) c k (t - 1))
    (low_if (tab.writes s k) (takes tab s d k t) d (low_taken d _ k (free_element tab d.held t) (free_low tab d.held t) M) M)
    (low_if (tab.writes s k) (publishes tab s c k (t - 1)) c (low_followed c k _ L) L)

low_through : (tab : Table) (s : ℕ) (c : Choice) (ns : List ℕ) → Low c → Low (through (choose tab s) c ns)
unfolding through
low_through tab s c [] L = L
low_through tab s c (n ∷ ns) L = low_through tab s (choose tab s c n) ns (low_choose tab s c n L)

low_unchosen : (tab : Table) (s : ℕ) (uses : List ℕ) → Low (unchosen tab s uses)
low_unchosen tab s uses = record { current = omega arith; own = λ k. rw (nothing_held most_tasks k) (omega arith); count = omega arith }

-- the count of a signal is small
pub few_elements : (tab : Table) (s : ℕ) (uses : List ℕ) → (chosen tab s uses).count ≤ most_elements
unfolding chosen
few_elements tab s uses = (low_through tab s (unchosen tab s uses) (events tab) (low_unchosen tab s uses)).count

-- and so is the element that stands after n events
pub after_low : (tab : Table) (s : ℕ) (uses : List ℕ) (n : ℕ) (c : Choice) → c ≡ through (choose tab s) (unchosen tab s uses) (take n (events tab)) → c.current < most_elements
after_low tab s uses n c e = (subst Low (sym e) (low_through tab s (unchosen tab s uses) (take n (events tab)) (low_unchosen tab s uses))).current
