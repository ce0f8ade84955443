-- The publication that one pass finds is the value that rules binds a reader to.
use Rattle.std.specs.Prelude.{Option, Some, None}
use mathlib.Core.Path.{◌≡◌, refl, sym, ap, ◌∙◌}
use mathlib.Core.Logic.{⊎_elim, ◌⊎◌, inl, inr}
use mathlib.Core.Bool.{true}
use Prim.Native.Nat.{ℕ, suc, ◌≤◌, ◌<◌}
use native.Mathlib.Nat.{le_refl, le_step, le_trans, le_of_lt, not-suc-le-zero, mul-le-mul_right}
use native.Mathlib.Omega.{arith}
use lib.Dec.{ltb}
use borrow.Author.Tests.{ltb-true, ltb-false}
use Rattle.rules.specs.Windows.{Table, closes}
use Rattle.rules.specs.Values.{by, bound}
use Rattle.rules.specs.Table.{Fits}
use Rattle.rules.specs.Reading.{Grid, table_of, writes_in}
use Rattle.rules.specs.declared.Tasks.{Tasks}
use Rattle.rules.specs.declared.Signals.{Signals}
use Rattle.theory.proofs.Tests.{holds, is, not_both}
use Rattle.theory.proofs.Joins.{bound_is, bound_first}
use Rattle.windows.specs.Windowed.{Windowed}
use Rattle.windows.specs.Forms.{last_closed, task_in, IsLastClosed}
use Rattle.windows.proofs.Windows.{branch, fits_window, last_closed_lem}
use Rattle.signals.specs.declared.Publication.{Publication}
use Rattle.signals.specs.Pass.{pass}
use Rattle.signals.specs.Forms.{publication_of, nothing_yet, later_if, later_of, binding_of}
use Rattle.signals.proofs.Passes.{pass_law, below_suc}

-- each task of the table has its window inside its period
abbrev pub Windows : Table → Type 0
Windows tab = (k : ℕ) → k < tab.tasks → Windowed (task_in tab k)

-- instances close in their order
pub closes_in_order : (tab : Table) (k i j : ℕ) → i ≤ j → closes tab k i ≤ closes tab k j
closes_in_order tab k i j l = omega (arith, mul-le-mul_right (tab.period k) l)

module _ (tab : Table) (s t : ℕ) where
  abbrev Own : ℕ → Publication → Type 0
  Own n p = (p ≡ nothing_yet) ⊎ ((k : ℕ) × (i : ℕ) × (k < n) × (tab.writes s k ≡ true) × (closes tab k i ≤ t) × (p ≡ publication_of tab (by s k i)))

  abbrev Last : Publication → ℕ → Type 0
  Last p k = tab.writes s k ≡ true → (j : ℕ) → closes tab k j ≤ t → closes tab k j ≤ p.tick

  -- the latest of what the first n tasks published at or before t
  record Latest (n : ℕ) (p : Publication) : Type 0 where
    own : Own n p
    last : (k : ℕ) → k < n → Last p k

  kept : {n : ℕ} {p : Publication} → Own n p → Own (suc n) p
  kept = ⊎_elim (λ e. inl e) (λ (k, i, h, w, c, e). inr (k, i, le_step h, w, c, e))

  one_more : (n : ℕ) (p : Publication) → tab.writes s n ≡ true → Latest n p → (f : Option ℕ) → IsLastClosed tab n t f → Latest (suc n) (later_if (task_in tab n) n p f)
  one_more n p w q None l = record { own = kept q.own; last = below_suc (Last p) n q.last (λ w' j h. omega (arith, l j)) }
  one_more n p w q (Some i) l =
      branch (Latest (suc n)) (ltb p.tick (closes tab n i))
      (λ b. record {
        own = inr (n, i, le_refl (suc n), w, l.0, refl);
        last = below_suc (Last (publication_of tab (by s n i))) n
            (λ k h w' j c. le_trans (q.last k h w' j c) (le_of_lt (ltb-true p.tick (closes tab n i) b)))
            (λ w' j c. closes_in_order tab n j i (l.1 j c));
      })
      (λ b. record {
        own = kept q.own;
        last = below_suc (Last p) n q.last (λ w' j c. le_trans (closes_in_order tab n j i (l.1 j c)) (ltb-false p.tick (closes tab n i) b));
      })

  latest : Windows tab → Latest tab.tasks (pass (tab.writes s) (λ k found. later_of (task_in tab k) k t found) nothing_yet tab.tasks)
  unfolding later_of
  latest W =
      pass_law (tab.writes s) (λ k found. later_of (task_in tab k) k t found) nothing_yet Latest tab.tasks
      (record { own = inl refl; last = λ k l. absurd (not-suc-le-zero l) })
      (λ k p h q w. one_more k p w q (last_closed (task_in tab k) t) (last_closed_lem tab k t (W k h)))
      (λ k p h q w. record { own = kept q.own; last = below_suc (Last p) k q.last (λ w' j c. absurd (not_both w' w)) })

  bound_latest : Fits tab → s < tab.signals → (p : Publication) → Latest tab.tasks p → p ≡ publication_of tab (bound tab s t)
  bound_latest F y p q =
      ⊎_elim
      (λ e. e ∙ ap (publication_of tab) (sym (bound_first tab F s y t (λ l j w c.
      omega (arith, q.last l w.0 (is (tab.writes s l) w.1) j c, ap (λ (z : Publication). z.tick) e, F.window l w.0)))))
      (λ (k, i, h, w, c, e). e ∙ ap (publication_of tab) (sym (bound_is tab F s y t k i (h, holds w) c (λ l j x d.
      rw e at (q.last l x.0 (is (tab.writes s l) x.1) j d)))))
      q.own

-- the value found is the one that a reader opening at t is bound to
pub binding_is : (tasks : Tasks) (signals : Signals) (grid : Grid) → Fits (table_of tasks signals grid) → (s t : ℕ) → s < signals.count
    → binding_of tasks (writes_in grid s) t ≡ publication_of (table_of tasks signals grid) (bound (table_of tasks signals grid) s t)
unfolding binding_of
binding_is tasks signals grid F s t y = let tab : Table = table_of tasks signals grid in bound_latest tab s t F y _ (latest tab s t (fits_window tab F))
