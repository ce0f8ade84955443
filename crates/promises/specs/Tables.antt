-- Demands 1 and 2 about `table::read_table` and `sections::grid::read_grid`: a table is accepted exactly when document 01's rules hold, and a refusal tells
-- the first rule that is broken, and where. proofs/Tables.antt proves it. Assumes nothing.
use Rattle.std.specs.Prelude.{ℕ, ◌≡◌, List, ◌↔◌, Ok}
use Rattle.rules.specs.Windows.{Table, hyper}
use Rattle.rules.specs.Table.{Fits}
use Rattle.rules.specs.Numbers.{told, all_done}
use Rattle.rules.specs.Encode.{encode}
use Rattle.rules.specs.Reading.{Grid, table_of, table_in, read_says}
use Rattle.theory.specs.Promises.{IsLeast}
use Rattle.theory.specs.FirstRecord.{ReadFirst}
use Rattle.theory.specs.TableBytes.{SameTable, Wide, AreBytes}
use Rattle.sections.specs.Gives.{GridGives}
use Rattle.table.specs.declared.reading.TableRead.{TableRead}
use Rattle.table.specs.Said.{answer_of}
use Rattle.table.specs.Gives.{TableGives}

pub record ReadExactly (bytes : List ℕ) (r : TableRead) : Type 0 where
  -- it is accepted exactly where the bytes are those of a table that keeps every rule,
  pub accepted : ((told (answer_of r.hyper)).number ≡ all_done) ↔ ((tab : Table) × Fits tab × Wide tab × (bytes ≡ encode tab))
  -- what is read, with the accesses that `read_grid` gives, is that table, and there is no other,
  pub same : (g : Grid) → GridGives bytes g → (tab : Table) → Fits tab → Wide tab → bytes ≡ encode tab → SameTable (table_of r.tasks r.signals g) tab
  -- with its hyper-period.
  pub period : (tab : Table) → Fits tab → Wide tab → bytes ≡ encode tab → r.hyper ≡ Ok (hyper tab)
  -- No other result meets the contract.
  pub one : (q : TableRead) → TableGives bytes q → q ≡ r

-- So it is for all bytes.
abbrev pub TablesExactly : Type 0
TablesExactly = (bytes : List ℕ) → AreBytes bytes → (r : TableRead) → TableGives bytes r → ReadExactly bytes r

pub record TellsFirst (bytes : List ℕ) (r : TableRead) : Type 0 where
  -- The answer is that of the first broken rule, and where: theory/specs/FirstRecord.antt says of the bytes alone when a record breaks each of 1 to 6.
  pub first : ReadFirst bytes (told (answer_of r.hyper))
  -- H, by which 8 goes, is the least common multiple of the periods that are read.
  pub least : IsLeast (table_in bytes).period (table_in bytes).tasks (hyper (table_in bytes))
  -- It is `read_says`, which planning, the live list and the check tell too of a table that is refused (`table_refused`).
  pub same : told (answer_of r.hyper) ≡ read_says bytes

abbrev pub TablesFirst : Type 0
TablesFirst = (bytes : List ℕ) (r : TableRead) → TableGives bytes r → TellsFirst bytes r
