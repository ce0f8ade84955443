-- What the contract of `read_table` gives its callers, and that it determines the result: two that say the same are equal.
use Rattle.std.specs.Prelude.{Result, Ok, Err}
use mathlib.Core.Bool.{cond}
use mathlib.Core.Path.{◌≡◌, refl, sym, ap, ◌∙◌}
use mathlib.Core.List.{List}
use Prim.Native.Nat.{ℕ}
use lib.Dec.{eqb}
use Rattle.rules.specs.Windows.{Table, hyper}
use Rattle.rules.specs.Numbers.{Told, told, all_done}
use Rattle.rules.specs.Records.{End}
use Rattle.rules.specs.Reading.{TableSaid, table_of, grid_in, table_in, read_says, verdict, hyper_read, table_read}
use Rattle.rules.specs.declared.Refusal.{Refusal}
use Rattle.theory.proofs.Proved.{whatever_is_read_keeps}
use Rattle.fields.proofs.Told.{untold, untold_told}
use Rattle.table.specs.Said.{answer_of, hyper_or_0, table_said}
use Rattle.table.specs.declared.reading.TableRead.{TableRead}

-- the answer with the hyper-period that stands beside it
abbrev with_hyper : Result ℕ Refusal → ℕ → Result ℕ Refusal
with_hyper (Ok p) h = Ok h
with_hyper (Err e) h = Err e

-- what is said finds the hyper-period or the refusal again
found_again : (r : Result ℕ Refusal) → with_hyper (untold (told (answer_of r))) (hyper_or_0 r) ≡ r
found_again (Ok h) = refl
found_again (Err e) = ap (λ (a : Result ℕ Refusal). with_hyper a 0) (untold_told (Err e))

pub table_exact : (a b : TableRead) → table_said a ≡ table_said b → a ≡ b
table_exact a b e =
    let same : a.hyper ≡ b.hyper = sym (found_again a.hyper) ∙ ap (λ (t : TableSaid). with_hyper (untold t.answer) t.hyper) e ∙ found_again b.hyper in
    λ i. record { tasks = (e i).tasks; signals = (e i).signals; hyper = same i }

pub answer_says : (bytes : List ℕ) (r : TableRead) → table_said r ≡ table_read bytes → told (answer_of r.hyper) ≡ read_says bytes
unfolding table_read
answer_says bytes r e = ap (λ (t : TableSaid). t.answer) e

-- the table that was read
pub table_is : (bytes : List ℕ) (r : TableRead) → table_said r ≡ table_read bytes → table_of r.tasks r.signals (grid_in bytes) ≡ table_in bytes
unfolding table_read table_in
table_is bytes r e = ap (λ (t : TableSaid). table_of t.tasks t.signals (grid_in bytes)) e

-- and its hyper-period
pub hyper_read_lem : (bytes : List ℕ) (r : TableRead) → table_said r ≡ table_read bytes → (read_says bytes).number ≡ all_done → hyper_or_0 r.hyper ≡ hyper (table_in bytes)
unfolding table_read read_says verdict hyper_read
hyper_read_lem bytes r e z =
    let (p, h) = (whatever_is_read_keeps bytes).whole z in
    ap (λ (t : TableSaid). t.hyper) e ∙ ap (hyper_read (table_in bytes)) h ∙ done_hyper (table_in bytes) p (ap (λ (t : Told). t.number) (sym (ap (verdict (table_in bytes)) h)) ∙ z)
  where
    done_hyper : (tab : Table) (p : ℕ) → (verdict tab (End.at p)).number ≡ all_done → hyper_read tab (End.at p) ≡ hyper tab
    done_hyper tab p q = ap (λ (n : ℕ). cond (eqb n all_done) (hyper tab) 0) q

-- ---- the two ways a reading ends

-- the table is accepted, and this is its hyper-period
pub accepted_says : (bytes : List ℕ) (r : TableRead) → table_said r ≡ table_read bytes → {h : ℕ} → r.hyper ≡ Ok h → ((read_says bytes).number ≡ all_done) × (h ≡ hyper (table_in bytes))
accepted_says bytes r e q =
    let done = sym (ap (λ (t : Told). t.number) (answer_says bytes r e)) ∙ ap (λ (a : Result ℕ Refusal). (told (answer_of a)).number) q in
    (done, sym (ap hyper_or_0 q) ∙ hyper_read_lem bytes r e done)

-- the table is refused, and this is the rule that broke
pub refused_says : (bytes : List ℕ) (r : TableRead) → table_said r ≡ table_read bytes → {x : Refusal} → r.hyper ≡ Err x → told (Err x) ≡ read_says bytes
refused_says bytes r e q = sym (ap (λ (a : Result ℕ Refusal). told (answer_of a)) q) ∙ answer_says bytes r e
