-- Tables are accepted exactly, and a refusal tells the first broken rule: specs/Tables.antt, proved.
use Rattle.std.proofs.Common.{Result, Ok, Err, refl, arith}
use Rattle.fields.proofs.Told.{broke}
use Rattle.rules.specs.declared.Refusal.{Refusal}
use Prim.Native.Nat.{ℕ}
use mathlib.Core.Path.{◌≡◌, sym, ap, subst, ◌∙◌}
use mathlib.Core.List.{List}
use mathlib.Core.Logic.{◌↔◌}
use Rattle.rules.specs.Windows.{Table}
use Rattle.rules.specs.Table.{Fits}
use Rattle.rules.specs.Numbers.{Told, told, all_done}
use Rattle.rules.specs.Encode.{encode}
use Rattle.rules.specs.Reading.{table_of, table_in, read_says}
use Rattle.theory.specs.FirstRecord.{ReadFirst}
use Rattle.theory.specs.TableBytes.{SameTable, Wide}
use Rattle.theory.proofs.Proved.{table_accepted_exactly, table_reads_back, read_says_first, whatever_is_read_keeps}
use Rattle.theory.proofs.Same.{same_hyper}
use Rattle.table.specs.declared.reading.TableRead.{TableRead}
use Rattle.table.specs.Said.{answer_of, hyper_or_0}
use Rattle.table.specs.Gives.{TableGives}
use Rattle.table.proofs.Exact.{table_exact, answer_says, table_is, hyper_read_lem}
use Rattle.promises.specs.Tables.{TablesExactly, TablesFirst}

module _ (bytes : List ℕ) (r : TableRead) (g : TableGives bytes r) where
  answer_is : told (answer_of r.hyper) ≡ read_says bytes
  answer_is = answer_says bytes r g

  -- the table that was read, where the bytes are those of a table
  read_same : (tab : Table) → Fits tab → Wide tab → bytes ≡ encode tab → SameTable (table_in bytes) tab
  read_same tab F w e = subst (λ (b : List ℕ). SameTable (table_in b) tab) (sym e) (table_reads_back tab F w).1

-- where the answer is done, the hyper-period stands there
accepted_is : (x : Result ℕ Refusal) → (told (answer_of x)).number ≡ all_done → x ≡ Ok (hyper_or_0 x)
accepted_is (Ok h) z = refl
accepted_is (Err e) z = let b = broke e in let n : (told (Err e)).number ≡ 0 = z in absurd (omega arith)

pub tables_exactly : TablesExactly
tables_exactly bytes o r g = record {
  accepted = subst (λ (t : Told). (t.number ≡ all_done) ↔ ((tab : Table) × Fits tab × Wide tab × (bytes ≡ encode tab))) (sym (answer_is bytes r g)) (table_accepted_exactly bytes o);
  same = λ d h tab F w e. subst (λ (x : Table). SameTable x tab) (sym (ap (table_of r.tasks r.signals) h ∙ table_is bytes r g)) (read_same bytes r g tab F w e);
  period = λ tab F w e.
      let done = ap (λ (x : List ℕ). (read_says x).number) e ∙ ap (λ (t : Told). t.number) (table_reads_back tab F w).0 in
      accepted_is r.hyper (ap (λ (t : Told). t.number) (answer_is bytes r g) ∙ done) ∙ ap Ok (hyper_read_lem bytes r g done ∙ same_hyper (table_in bytes) tab (read_same bytes r g tab F w e));
  one = λ q h. table_exact q r (h ∙ sym g);
}

pub tables_first : TablesFirst
tables_first bytes r g = record {
  first = subst (ReadFirst bytes) (sym (answer_is bytes r g)) (read_says_first bytes);
  least = (whatever_is_read_keeps bytes).least;
  same = answer_is bytes r g;
}
