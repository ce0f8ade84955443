-- The bytes of a table: reading undoes writing, and a table is accepted exactly where document 01's rules hold.
-- proofs/Proved.antt has one theorem for each name. Assumes nothing.
use Rattle.std.specs.Prelude.{ℕ, ◌<◌, ◌≡◌, List, ◌↔◌, get_or}
use Rattle.rules.specs.Windows.{Table, hyper}
use Rattle.rules.specs.Table.{Fits}
use Rattle.rules.specs.Numbers.{tell}
use Rattle.rules.specs.Encode.{encode}
use Rattle.rules.specs.Records.{End}
use Rattle.rules.specs.Reading.{table_in, read_says, end_of}
use Rattle.theory.specs.Promises.{Read, IsLeast}

-- The two tables agree on their tasks, their signals, and on who reads and writes what.
pub record SameTable (a b : Table) : Type 0 where
  pub tasks : a.tasks ≡ b.tasks
  pub period : (k : ℕ) → k < b.tasks → a.period k ≡ b.period k
  pub start : (k : ℕ) → k < b.tasks → a.start k ≡ b.start k
  pub end : (k : ℕ) → k < b.tasks → a.end k ≡ b.end k
  pub signals : a.signals ≡ b.signals
  pub default : (s : ℕ) → s < b.signals → a.default s ≡ b.default s
  pub reads : (s k : ℕ) → s < b.signals → k < b.tasks → a.reads s k ≡ b.reads s k
  pub writes : (s k : ℕ) → s < b.signals → k < b.tasks → a.writes s k ≡ b.writes s k

-- each default fits its four bytes
abbrev pub Wide : Table → Type 0
Wide tab = (s : ℕ) → s < tab.signals → tab.default s < 4294967296

-- each is a byte
abbrev pub AreBytes : List ℕ → Type 0
AreBytes bytes = (i : ℕ) → get_or bytes i 0 < 256

-- The bytes of a table that keeps the rules are accepted, and what is read of them is that table.
abbrev pub ReadsBack : Table → Type 0
ReadsBack tab = Fits tab → Wide tab → (read_says (encode tab) ≡ tell 0 0) × SameTable (table_in (encode tab)) tab

-- Bytes that are accepted are those of the table that is read of them, and it keeps the rules.
abbrev pub WrittenBack : List ℕ → Type 0
WrittenBack bytes = AreBytes bytes → (read_says bytes).number ≡ 0 → (bytes ≡ encode (table_in bytes)) × Fits (table_in bytes) × Wide (table_in bytes)

-- So bytes are accepted exactly where they are those of a table that keeps the rules.
abbrev pub AcceptedExactly : List ℕ → Type 0
AcceptedExactly bytes = AreBytes bytes → ((read_says bytes).number ≡ 0) ↔ ((tab : Table) × Fits tab × Wide tab × (bytes ≡ encode tab))

-- And there is but one such table: two that have the same bytes agree.
abbrev pub OneTable : Table → Table → Type 0
OneTable a b = Fits a → Wide a → Fits b → Wide b → encode a ≡ encode b → SameTable a b

-- Of any bytes, refused ones too, the records read so far keep rules 3 and 4, and their hyper-period is the least common multiple of the periods, so that
-- 8 is exact; a table that is accepted keeps all rules, and was read to its end.
pub record ReadKeeps (bytes : List ℕ) : Type 0 where
  pub read : Read (table_in bytes)
  pub least : IsLeast (table_in bytes).period (table_in bytes).tasks (hyper (table_in bytes))
  pub accepted : (read_says bytes).number ≡ 0 → Fits (table_in bytes)
  pub whole : (read_says bytes).number ≡ 0 → (p : ℕ) × (end_of bytes ≡ End.at p)
