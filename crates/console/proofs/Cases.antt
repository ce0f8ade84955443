-- The language by examples: each line with what it asks for, each word with what it is, each number with its text. Assumes nothing.
use Rattle.std.specs.Prelude.{Option, Some, None}
use Prim.Native.String.{String}
use mathlib.Core.Path.{◌≡◌, refl}
use mathlib.Core.Bool.{true, false}
use mathlib.Core.List.{List, [], ◌∷◌, map}
use Rattle.rules.specs.Words.{when}
use Rattle.rules.specs.Listing.{ascii, figures, decimal_of}
use Rattle.console.specs.declared.command.Command.{Command}
use Rattle.console.specs.Page.{hex_of}
use Rattle.console.specs.Digits.{number_of, is_hex, bytes_of}
use Rattle.console.specs.Commands.{any_number, is_quiet, command_of}

abbrev asks : String → Option Command
asks line = command_of (ascii line)

pub lines : map asks
    ("table 454e" ∷ "table -" ∷ "check 00" ∷ "load FFff" ∷ "plan 29000" ∷ "step" ∷ "step 1000000" ∷ "live 18446744073709551615 600" ∷ "read 0 007" ∷ "write 1 2 4294967295" ∷ "list" ∷ [])
    ≡ map (λ (c : Command). Some c) (Command.Table ∷ Command.Table ∷ Command.Check ∷ Command.Load ∷ Command.Plan 29000 ∷ Command.Steps 1 ∷ Command.Steps 1000000 ∷ Command.Live 18446744073709551615 600 ∷ Command.Read 0 7 ∷ Command.Write 1 2 4294967295 ∷ Command.Listing ∷ [])
unfolding when number_of is_hex
lines = refl

-- lines that are no command
abbrev refused : List String
refused =
    "table" ∷ "table " ∷ "table  45" ∷ " table 45" ∷ "table 45 " ∷ "table\t45" ∷ "table 45\r" ∷ "table 4" ∷ "table 4G" ∷ "plan 29001" ∷ "plan" ∷ "step 1000001" ∷ "step " ∷ "list " ∷ "live 0 601" ∷ "live 18446744073709551616 0" ∷ "read 0" ∷ "read 0 1 2" ∷ "read -1 0" ∷ "write 0 0 4294967296" ∷ "write 0 0" ∷ "write 0  0" ∷ "write 0 0 0 0" ∷ []

pub bad : map asks refused ≡ map (λ (line : String). None) refused
unfolding when number_of is_hex
bad = refl

pub numbers : map (λ (w : String). number_of any_number (ascii w))
    ("0" ∷ "18446744073709551615" ∷ "00000000000000000000018446744073709551615" ∷ "18446744073709551616" ∷ "99999999999999999999" ∷ "" ∷ "1a" ∷ [])
    ≡ (Some 0 ∷ Some 18446744073709551615 ∷ Some 18446744073709551615 ∷ None ∷ None ∷ None ∷ None ∷ [])
unfolding when number_of
numbers = refl

pub decimals : map decimal_of (0 ∷ 9 ∷ 10 ∷ 10000 ∷ 18446744073709551615 ∷ [])
    ≡ map ascii ("0" ∷ "9" ∷ "10" ∷ "10000" ∷ "18446744073709551615" ∷ [])
unfolding when figures
decimals = refl

pub bytes : map (λ (w : String). bytes_of (ascii w)) ("454e" ∷ "454E" ∷ "00fF" ∷ "-" ∷ [])
    ≡ ((69 ∷ 78 ∷ []) ∷ (69 ∷ 78 ∷ []) ∷ (0 ∷ 255 ∷ []) ∷ [] ∷ [])
unfolding when bytes_of
bytes = refl

pub hex : map hex_of ((69 ∷ 78 ∷ []) ∷ (0 ∷ 255 ∷ []) ∷ [] ∷ [])
    ≡ map ascii ("454E" ∷ "00FF" ∷ "-" ∷ [])
hex = refl

pub quiet : map (λ (l : String). is_quiet (ascii l)) ("" ∷ "# table 45" ∷ " #" ∷ "list" ∷ [])
    ≡ (true ∷ true ∷ false ∷ false ∷ [])
unfolding when
quiet = refl
