-- What every answer of the bench is made of. Assumes nothing.
use Rattle.std.specs.Prelude.{ℕ, List, [], ◌∷◌, ◌++◌}
use Rattle.rules.specs.Numbers.{Told}
use Rattle.rules.specs.Listing.{decimal_of}
use Rattle.console.specs.Ascii.{space}

abbrev pub line_feed : ℕ
line_feed = 10

abbrev pub number_and_place : Told → List ℕ
number_and_place t = decimal_of t.number ++ (space ∷ decimal_of t.place)

-- `bad line`
abbrev pub bad_line : List ℕ
bad_line = 98 ∷ 97 ∷ 100 ∷ 32 ∷ 108 ∷ 105 ∷ 110 ∷ 101 ∷ line_feed ∷ []
