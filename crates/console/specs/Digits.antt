-- Numbers and bytes as the console reads them. Assumes nothing.
use Rattle.std.specs.Prelude.{ℕ, ◌+◌, ◌*◌, ◌%◌, Bool, not, ◌&&◌, ◌||◌, Option, Some, None, List, [], ◌∷◌, length, nat_le, ◌==◌, if◌then◌else◌, unwrap_or}
use Rattle.std.specs.Char.{digit_value, is_digit, is_ascii_hexdigit}
use Rattle.std.specs.Str.{bytes_eq}
use Rattle.std.specs.List.{list_all}
use Rattle.console.specs.Ascii.{dash}
use Rattle.console.specs.Steps.{◌>>=◌}

-- what a digit of a base stands for, of either case
abbrev pub digit_of : ℕ → ℕ → Option ℕ
digit_of base b = if is_digit b base then Some (digit_value b) else None

-- the decimal number that the digits make after those that make v
abbrev pub value_of : ℕ → List ℕ → Option ℕ
value_of v [] = Some v
value_of v (b ∷ bs) = digit_of 10 b >>= λ d. value_of (v * 10 + d) bs

-- a number that is no more than this
abbrev pub limited : ℕ → ℕ → Option ℕ
limited most v = if nat_le v most then Some v else None

-- one or more decimal digits, in all no more than `most`
unfoldable pub number_of : ℕ → List ℕ → Option ℕ
number_of most word = if length word == 0 then None else (value_of 0 word >>= limited most)

-- `-`, or one pair of hex digits or more
unfoldable pub is_hex : List ℕ → Bool
is_hex word = bytes_eq word (dash ∷ []) || (not (length word == 0) && ((length word % 2 == 0) && list_all is_ascii_hexdigit word))

-- half a byte; a byte that is no hex digit counts as 0
abbrev pub half_of : ℕ → ℕ
half_of b = unwrap_or (digit_of 16 b) 0

-- the byte of two digits
abbrev pub pair_of : ℕ → ℕ → ℕ
pair_of high low = half_of high * 16 + half_of low

-- the bytes of pairs of digits
unfoldable pub bytes_of : List ℕ → List ℕ
bytes_of [] = []
bytes_of (a ∷ []) = []
bytes_of (a ∷ b ∷ rest) = pair_of a b ∷ bytes_of rest
