-- The contract of `new`, `moved` and `placed`. Assumes nothing.
use Rattle.std.specs.Prelude.{ℕ, ◌≡◌, List}
use Rattle.std.specs.Borrow.{Bor}
use Rattle.records.specs.declared.Cursor.{Cursor}
use Rattle.reader.specs.declared.Reader.{Reader}

-- r is the reader that keeps this table, as it was lent, and this place in it
abbrev pub ReaderGives : Bor (List ℕ) → Cursor → Reader → Type 0
ReaderGives table place r = r ≡ record { table = table; place = place }
