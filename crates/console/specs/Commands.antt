-- The console's language: what a line asks for. Assumes nothing.
use Rattle.std.specs.Prelude.{ℕ, Bool, true, Option, Some, None, List, length, get_or, ◌==◌, if◌then◌else◌}
use Rattle.std.specs.Str.{bytes_eq}
use Rattle.rules.specs.Table.{most_lent}
use Rattle.console.specs.declared.command.Command.{Command}
use Rattle.console.specs.Ascii.{space, hash, table_name, check_name, load_name, plan_name, live_name, step_name, read_name, write_name, list_name}
use Rattle.console.specs.Words.{marks_in, first_word, after_word}
use Rattle.console.specs.Steps.{◌>>=◌}
use Rattle.console.specs.Digits.{number_of, is_hex}

-- any number that a call takes
abbrev pub any_number : ℕ
any_number = 18446744073709551615

-- the longest buffer that the bench lends, and the most steps in one go
abbrev pub most_planned : ℕ
most_planned = 29000

abbrev pub most_steps : ℕ
most_steps = 1000000

-- a word of 32 bits
abbrev pub most_word : ℕ
most_word = 4294967295

-- this command, if its bytes can be read
abbrev pub on_hex : Command → List ℕ → Option Command
on_hex command word = if is_hex word then Some command else None

-- a line of one word
abbrev pub alone : List ℕ → Option Command
alone name =
    if bytes_eq name step_name then Some (Command.Steps 1) else
    (if bytes_eq name list_name then Some Command.Listing else
    None)

-- a name and one word
abbrev pub with_one : List ℕ → List ℕ → Option Command
with_one name word =
    if bytes_eq name table_name then on_hex Command.Table word else
    (if bytes_eq name check_name then on_hex Command.Check word else
    (if bytes_eq name load_name then on_hex Command.Load word else
    (if bytes_eq name plan_name then (number_of most_planned word >>= λ len. Some (Command.Plan len)) else
    (if bytes_eq name step_name then (number_of most_steps word >>= λ k. Some (Command.Steps k)) else
    None))))

-- a name and two words
abbrev pub with_two : List ℕ → List ℕ → Option Command
with_two name words =
    if bytes_eq name live_name then (do
      signal ← number_of any_number (first_word words)
      records ← number_of most_lent (after_word words)
      Some (Command.Live signal records)) else
    (if bytes_eq name read_name then (do
      task ← number_of any_number (first_word words)
      signal ← number_of any_number (after_word words)
      Some (Command.Read task signal)) else
    None)

-- a name and three words
abbrev pub with_three : List ℕ → List ℕ → Option Command
with_three name words =
    if bytes_eq name write_name then (do
      task ← number_of any_number (first_word words)
      signal ← number_of any_number (first_word (after_word words))
      word ← number_of most_word (after_word (after_word words))
      Some (Command.Write task signal word)) else
    None

-- a line that asks for nothing: it is empty, or begins with `#`
abbrev pub is_quiet : List ℕ → Bool
is_quiet line = if length line == 0 then true else (get_or line 0 0 == hash)

-- what any other line asks for, by its spaces
abbrev pub command_of : List ℕ → Option Command
command_of line =
    if marks_in space line == 0 then alone line else
    (if marks_in space line == 1 then with_one (first_word line) (after_word line) else
    (if marks_in space line == 2 then with_two (first_word line) (after_word line) else
    (if marks_in space line == 3 then with_three (first_word line) (after_word line) else
    None)))
