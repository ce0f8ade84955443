-- What a change of one part leaves of the others, and that it keeps a state fit. Assumes nothing.
use Rattle.std.specs.Prelude.{Option, Some, None}
use Prim.Native.Nat.{ℕ, zero, suc, ◌+◌, ◌-◌, ◌≤◌, ◌<◌}
use mathlib.Core.Path.{◌≡◌, refl, ap, ap₂, ◌∙◌, subst}
use mathlib.Core.Bool.{true, ◌&&◌}
use mathlib.Core.List.{List, [], ◌∷◌}
use native.Mathlib.Omega.{arith}
use lib.Dec.{leb, ltb, eqb}
use lib.ListN.{set}
use lib.Seq.{get_or-set_other}
use borrow.Author.Tests.{ltb-true, lt-ltb}
use Rattle.rules.specs.Table.{most_tasks, most_signals, most_uses, longest}
use Rattle.state.specs.Parts.{at, cell, loaded, hyper, tick, counts, reads, writes, uses, positions, carried, held}
use Rattle.state.specs.Fitness.{in_block, access_fits, task_fits, tasks_fit, positions_fit, running, fit}
use Rattle.state.specs.Rows.{lacks, use_of, publish_one, release_one, at_instance, closing_of, published, released, advanced}
use Rattle.theory.proofs.Check.{every_at, every_is}
use Rattle.theory.proofs.Loops.{loop_keeps}
use Rattle.state.proofs.Folds.{every_same}
use Rattle.theory.proofs.Tests.{split, both, and_is}

-- ---- one number is set

-- what holds of the new number and of the old one holds of what stands there then
pub set_either : (P : ℕ → Type 0) (n : List ℕ) (j k v : ℕ) → P v → P (at n k) → P (at (set n j v) k)
set_either P [] j k v p q = q
set_either P (x ∷ n) zero zero v p q = p
set_either P (x ∷ n) zero (suc k) v p q = q
set_either P (x ∷ n) (suc j) zero v p q = q
set_either P (x ∷ n) (suc j) (suc k) v p q = set_either P n j k v p q

pub set_off : (n : List ℕ) (j k v : ℕ) → (k ≡ j → ⊥) → at (set n j v) k ≡ at n k
set_off n j k v h = get_or-set_other n j k v 0 h

-- ---- a part is changed: at a place off the part the same number stands

abbrev pub Off : (part size k : ℕ) → Type 0
Off part size k = (s : ℕ) → s < size → k ≡ part + s → ⊥

-- what every signal keeps, an instance keeps
pub instance_keeps : (P : List ℕ → Type 0) (f : ℕ → ℕ → List ℕ → List ℕ) (o : Option ℕ) → ((i s : ℕ) (a : List ℕ) → s < most_signals → P a → P (f i s a)) → (a : List ℕ) → P a → P (at_instance f o a)
instance_keeps P f (Some i) h a p = loop_keeps P most_signals (f i) a (h i) p
instance_keeps P f None h a p = p

-- what a closing of one signal keeps, the closings keep
pub published_keeps : (P : List ℕ → Type 0) → ((t i s : ℕ) (a : List ℕ) → s < most_signals → P a → P (publish_one t i s a)) → (n : List ℕ) → P n → P (published n)
unfolding published
published_keeps P h n p = loop_keeps P most_tasks (λ t a. at_instance (publish_one t) (closing_of a t) a) n (λ t a l q. instance_keeps P (publish_one t) (closing_of a t) (h t) a q) p

pub published_off : (n : List ℕ) (k : ℕ) → Off held most_signals k → at (published n) k ≡ at n k
unfolding publish_one
published_off n k o = published_keeps (λ a. at a k ≡ at n k) (λ t i s a l q. split (lacks a writes t s) (λ e. rw e q) (λ e. rw e (set_off a (held + s) k _ (o s l) ∙ q))) n refl

pub released_off : (n : List ℕ) (k : ℕ) → Off held most_signals k → at (released n) k ≡ at n k
unfolding released release_one
released_off n k o = loop_keeps (λ a. at a k ≡ at n k) most_signals release_one n (λ s a l q. set_off a (held + s) k _ (o s l) ∙ q) refl

-- ---- fitness by its parts

task_same : (x y : List ℕ) → ((k : ℕ) → counts ≤ k → k < uses → at x k ≡ at y k) → (t : ℕ) → t < most_tasks → task_fits x t ≡ task_fits y t
unfolding task_fits
task_same x y e t h =
    let c = e (counts + t) (omega arith) (omega arith) in
    ap₂ ◌&&◌ (ap (λ m. leb m most_uses) c)
    (every_same most_signals _ _ (λ s l. ap₂ ◌&&◌ (ap₂ access_fits c (e (cell reads t s) (omega arith) (omega arith))) (ap₂ access_fits c (e (cell writes t s) (omega arith) (omega arith)))))

tasks_same : (x y : List ℕ) → ((k : ℕ) → counts ≤ k → k < uses → at x k ≡ at y k) → tasks_fit x ≡ tasks_fit y
unfolding tasks_fit
tasks_same x y e = every_same most_tasks (task_fits x) (task_fits y) (task_same x y e)

positions_same : (x y : List ℕ) → ((k : ℕ) → uses ≤ k → k < uses + positions → at x k ≡ at y k) → positions_fit x ≡ positions_fit y
unfolding positions_fit
positions_same x y e = every_same positions _ _ (λ k h. ap in_block (e (uses + k) (omega arith) (omega arith)))

-- numbers past those that fitness looks at do not matter
pub fit_same : (x y : List ℕ) → ((k : ℕ) → k ≤ tick → at x k ≡ at y k) → fit x ≡ fit y
unfolding fit
fit_same x y e =
    rw (e loaded (omega arith), e hyper (omega arith), e tick (omega arith), tasks_same x y (λ k l h. e k (omega arith)), positions_same x y (λ k l h. e k (omega arith)))

-- the three of a fit state
pub record Fit (n : List ℕ) : Type 0 where
  pub runs : running (at n loaded) (at n hyper) (at n tick) ≡ true
  pub tasks : tasks_fit n ≡ true
  pub positions : positions_fit n ≡ true

pub fit_has : (n : List ℕ) → fit n ≡ true → Fit n
unfolding fit
fit_has n f =
    let a = both (running (at n loaded) (at n hyper) (at n tick)) (tasks_fit n && positions_fit n) f in
    let b = both (tasks_fit n) (positions_fit n) a.1 in
    record { runs = a.0; tasks = b.0; positions = b.1 }

pub fit_is : (n : List ℕ) → Fit n → fit n ≡ true
unfolding fit
fit_is n F = and_is F.runs (and_is F.tasks F.positions)

-- a position is set to a position
pub fit_position : (n : List ℕ) (j v : ℕ) → uses ≤ j → j < tick → in_block v ≡ true → fit n ≡ true → fit (set n j v) ≡ true
unfolding positions_fit
fit_position n j v h b w f =
    let off : (k : ℕ) → (k ≡ j → ⊥) → at (set n j v) k ≡ at n k = λ k l. set_off n j k v l in
    fit_is (set n j v) (record {
      runs = rw (off loaded (λ e. omega arith), off hyper (λ e. omega arith), off tick (λ e. omega arith)) (fit_has n f).runs;
      tasks = tasks_same (set n j v) n (λ k l m. off k (λ e. omega arith)) ∙ (fit_has n f).tasks;
      positions = every_is positions _ (λ k l. set_either (λ x. in_block x ≡ true) n j (uses + k) v w (every_at positions (λ i. in_block (at n (uses + i))) (fit_has n f).positions k l));
    })

runs_below : (n : List ℕ) → fit n ≡ true → (eqb (at n loaded) 1 && leb 1 (at n hyper) && leb (at n hyper) longest ≡ true) × (ltb (at n tick) (at n hyper) ≡ true)
runs_below n f = both (eqb (at n loaded) 1 && leb 1 (at n hyper) && leb (at n hyper) longest) (ltb (at n tick) (at n hyper)) (fit_has n f).runs

-- the tick is set to one below H
pub fit_tick : (n : List ℕ) (v : ℕ) → v < at n hyper → fit n ≡ true → fit (set n tick v) ≡ true
fit_tick n v h f =
    let off : (k : ℕ) → (k ≡ tick → ⊥) → at (set n tick v) k ≡ at n k = λ k l. set_off n tick k v l in
    fit_is (set n tick v) (record {
      runs = rw (off loaded (λ e. omega arith), off hyper (λ e. omega arith)) (and_is (runs_below n f).0 (set_either (λ x. ltb x (at n hyper) ≡ true) n tick tick v (lt-ltb v (at n hyper) h) (runs_below n f).1));
      tasks = tasks_same (set n tick v) n (λ k l m. off k (λ e. omega arith)) ∙ (fit_has n f).tasks;
      positions = positions_same (set n tick v) n (λ k l m. off k (λ e. omega arith)) ∙ (fit_has n f).positions;
    })

-- ---- a fit state stays fit

-- each position is inside the block
pub position_in : (n : List ℕ) → fit n ≡ true → (k : ℕ) → uses ≤ k → k < uses + positions → in_block (at n k) ≡ true
unfolding positions_fit
position_in n f k l h =
    let e : uses + (k - uses) ≡ k = omega arith in
    subst (λ j. in_block (at n j) ≡ true) e (every_at positions (λ i. in_block (at n (uses + i))) (fit_has n f).positions (k - uses) (omega arith))

pub use_in : (n : List ℕ) → fit n ≡ true → (kind t i s : ℕ) → in_block (use_of n kind t i s) ≡ true
unfolding use_of
use_in n f kind t i s =
    let k = at n (cell kind t s) + i in
    split (ltb k most_uses)
    (λ e. let l = ltb-true k most_uses e in rw e (position_in n f (uses + k) (omega arith) (omega arith)))
    (λ e. rw e)

pub published_fit : (n : List ℕ) → fit n ≡ true → fit (published n) ≡ true
unfolding publish_one
published_fit n f =
    published_keeps (λ a. fit a ≡ true) (λ t i s a l q. split (lacks a writes t s) (λ e. rw e q) (λ e. rw e (fit_position a (held + s) (use_of a writes t i s) (omega arith) (omega arith) (use_in a q writes t i s) q))) n f

pub released_fit : (n : List ℕ) → fit n ≡ true → fit (released n) ≡ true
unfolding released release_one
released_fit n f = loop_keeps (λ a. fit a ≡ true) most_signals release_one n (λ s a l q. fit_position a (held + s) _ (omega arith) (omega arith) (position_in a q (carried + s) (omega arith) (omega arith)) q) f

pub tick_below : (n : List ℕ) → fit n ≡ true → at n tick < at n hyper
tick_below n f = ltb-true (at n tick) (at n hyper) (runs_below n f).1

pub advanced_fit : (n store : List ℕ) → fit n ≡ true → fit (advanced n store).numbers ≡ true
unfolding advanced
advanced_fit n store f =
    split (ltb (at n tick + 1) (at n hyper))
    (λ e. rw e (fit_tick n (at n tick + 1) (ltb-true (at n tick + 1) (at n hyper) e) f))
    (λ e. rw e (fit_tick (released n) 0 (let g = released_fit n f in omega (arith, tick_below (released n) g)) (released_fit n f)))
