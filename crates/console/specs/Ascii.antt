-- The characters and the words of the console's language, in ASCII. Assumes nothing.
use Rattle.std.specs.Prelude.{ℕ, List}
use Rattle.rules.specs.Listing.{ascii}

abbrev pub space : ℕ
space = 32

abbrev pub hash : ℕ
hash = 35

-- `-`: no bytes
abbrev pub dash : ℕ
dash = 45

abbrev pub table_name : List ℕ
table_name = ascii "table"

abbrev pub check_name : List ℕ
check_name = ascii "check"

abbrev pub load_name : List ℕ
load_name = ascii "load"

abbrev pub plan_name : List ℕ
plan_name = ascii "plan"

abbrev pub live_name : List ℕ
live_name = ascii "live"

abbrev pub step_name : List ℕ
step_name = ascii "step"

abbrev pub read_name : List ℕ
read_name = ascii "read"

abbrev pub write_name : List ℕ
write_name = ascii "write"

abbrev pub list_name : List ℕ
list_name = ascii "list"
