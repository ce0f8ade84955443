-- The contract of `read_table`. Assumes nothing.
use Rattle.std.specs.Prelude.{ℕ, ◌≡◌, List}
use Rattle.rules.specs.Reading.{table_read}
use Rattle.table.specs.declared.reading.TableRead.{TableRead}
use Rattle.table.specs.Said.{table_said}

-- r is what `read_table` gives for these bytes
abbrev pub TableGives : List ℕ → TableRead → Type 0
TableGives bytes r = table_said r ≡ table_read bytes
