-- Document 01, the end of "Figures to hold the work to": the listing of a table, from its bytes to the bytes of a text. Assumes nothing.
use Rattle.std.specs.Prelude.{ℕ, zero, suc, ◌+◌, ◌/◌, ◌%◌, not, List, [], ◌∷◌, ◌++◌, map, ltb, eqb}
use Prim.Native.Char.{code}
use Prim.Native.String.{String, [] as []ˢ, ◌∷◌ as ◌∷ˢ◌}
use Rattle.rules.specs.Words.{when}
use Rattle.rules.specs.Windows.{Table, hyper}
use Rattle.rules.specs.Schedule.{Schedule, base}
use Rattle.rules.specs.Plan.{plan}
use Rattle.rules.specs.Numbers.{Told, all_done}
use Rattle.rules.specs.Bytes.{Part, bf, wi, ri, parts}
use Rattle.rules.specs.Answers.{plan_says}
use Rattle.rules.specs.Reading.{table_in, read_says}

-- a text in ASCII
abbrev pub ascii : String → List ℕ
ascii []ˢ = []
ascii (c ∷ˢ s) = code c ∷ ascii s

abbrev pub line_feed : ℕ
line_feed = 10

-- `0` to `9`
abbrev pub digit : ℕ → ℕ
digit d = 48 + d

-- the last figures of n in decimal, no more than so many, with no zero in front
unfoldable pub figures : ℕ → ℕ → List ℕ
figures zero n = []
figures (suc most) n = when (ltb n 10) (digit n ∷ []) (figures most (n / 10) ++ digit (n % 10) ∷ [])

-- n in decimal: a number of 64 bits has no more than 20 figures
abbrev pub decimal_of : ℕ → List ℕ
decimal_of n = figures 20 n

-- a number after a text
abbrev pub named : List ℕ → ℕ → List ℕ
named text n = text ++ decimal_of n

-- ---- the lines

abbrev pub hyper_line : ℕ → List ℕ
hyper_line h = named (ascii "hyper ") h

abbrev pub signal_line : (signal count : ℕ) → List ℕ
signal_line s n = named (ascii "signal ") s ++ named (ascii " elements ") n

-- after `write` or `read` stand task and instance
abbrev pub use_line : List ℕ → (task instance element : ℕ) → List ℕ
use_line name k i e = named name k ++ named (ascii " ") i ++ named (ascii " element ") e

abbrev pub total_line : ℕ → List ℕ
total_line n = named (ascii "total ") n

abbrev pub refused_line : Told → List ℕ
refused_line t = named (ascii "refused ") t.number ++ named (ascii " place ") t.place

-- the line of a record of a schedule
abbrev pub record_line : Schedule → Part → List ℕ
record_line E (bf s) = signal_line s (E.count s)
record_line E (wi s k i) = use_line (ascii "write ") k i (E.writer s k i)
record_line E (ri s k i) = use_line (ascii "read ") k i (E.reader s k i)

-- of an accepted table: H, the plan in the schedule's order, and the sum of the counts
unfoldable pub table_lines : Table → List (List ℕ)
table_lines tab = hyper_line (hyper tab) ∷ map (record_line (plan tab)) (parts tab) ++ total_line (base (plan tab) tab.signals) ∷ []

-- ---- the listing

-- lines one after the other, each with its line feed
unfoldable pub text_of : List (List ℕ) → List ℕ
text_of [] = []
text_of (l ∷ ls) = l ++ line_feed ∷ text_of ls

-- of a table's bytes, planned into a lent buffer of so many: a refused table or plan is one line
unfoldable pub listing : (table : List ℕ) (lent : ℕ) → List ℕ
listing table lent =
    text_of
    (when (not (eqb (read_says table).number all_done)) (refused_line (read_says table) ∷ [])
    (when (not (eqb (plan_says (table_in table) lent).number all_done)) (refused_line (plan_says (table_in table) lent) ∷ [])
    (table_lines (table_in table))))
