-- What was read of a table that is accepted keeps document 01's rules, and its hyper-period is the table's own.
use Rattle.std.proofs.Common.{Ok, List, Err, nat_eq, false, arith, ℕ, ◌≡◌, ap, sym, subst, ◌∙◌}
use Rattle.rules.specs.Windows.{hyper}
use Rattle.rules.specs.Table.{Fits}
use Rattle.rules.specs.Numbers.{Told, told, all_done}
use Rattle.rules.specs.Reading.{Grid, TableSaid, table_of, tasks_in, signals_of, grid_in, table_in, read_says, table_read}
use Rattle.fields.proofs.Told.{broke}
use Rattle.theory.proofs.Proved.{whatever_is_read_keeps}
use Rattle.rules.specs.declared.Refusal.{Refusal}
use borrow.Author.Tests.{ne_eqb}
use Rattle.table.specs.declared.reading.TableRead.{TableRead}
use Rattle.table.specs.Gives.{TableGives}
use Rattle.table.proofs.Exact.{accepted_says, table_is}

module _ (bytes : List ℕ) (r : TableRead) (e : TableGives bytes r) {h : ℕ} (o : r.hyper ≡ Ok h) (grid : Grid) (g : grid ≡ grid_in bytes) where
  pub done : (read_says bytes).number ≡ all_done
  done = (accepted_says bytes r e o).0

  pub is_read : table_of r.tasks r.signals grid ≡ table_in bytes
  is_read = ap (table_of r.tasks r.signals) g ∙ table_is bytes r e

  pub tasks_are : r.tasks ≡ (tasks_in bytes).read
  unfolding table_read
  tasks_are = ap (λ (t : TableSaid). t.tasks) e

  pub signals_are : r.signals ≡ (signals_of bytes).read
  unfolding table_read
  signals_are = ap (λ (t : TableSaid). t.signals) e

  pub fits : Fits (table_of r.tasks r.signals grid)
  fits = subst Fits (sym is_read) ((whatever_is_read_keeps bytes).accepted done)

  pub own : h ≡ hyper (table_of r.tasks r.signals grid)
  own = (accepted_says bytes r e o).1 ∙ ap hyper (sym is_read)

-- bytes that break a rule are not accepted
pub is_refused : (bytes : List ℕ) (e : Refusal) → told (Err e) ≡ read_says bytes → nat_eq (read_says bytes).number all_done ≡ false
is_refused bytes e h = ne_eqb _ _ (λ z. let n = broke e in let m : (told (Err e)).number ≡ 0 = ap (λ (t : Told). t.number) h ∙ z in omega (arith))
