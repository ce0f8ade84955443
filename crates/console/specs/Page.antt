-- The writing side: a lent buffer as a page that is filled from the front, and bytes as text. Assumes nothing.
use Rattle.std.specs.Prelude.{ℕ, ◌+◌, ◌/◌, ◌%◌, List, [], ◌∷◌, length, slice_set, nat_lt, ◌==◌, if◌then◌else◌, fold}
use Rattle.std.specs.List.{flat_map}
use Rattle.rules.specs.Listing.{digit}
use Rattle.console.specs.Ascii.{dash}

-- a lent buffer, and how many of its bytes are in use
pub record Page : Type 0 where
  pub bytes : List ℕ
  pub used : ℕ

abbrev pub page : List ℕ → ℕ → Page
page bytes used = record { bytes = bytes; used = used }

-- one byte more; a page that is full stays as it is
abbrev pub put_one : ℕ → Page → Page
put_one b p = if nat_lt p.used (length p.bytes) then page (slice_set p.bytes p.used b) (p.used + 1) else p

-- these bytes one after the other
abbrev pub put_all : List ℕ → Page → Page
put_all bytes p = fold (λ q b. put_one b q) p bytes

-- the digit below 16: 0 to 9, then A to F
abbrev pub glyph_of : ℕ → ℕ
glyph_of d = if nat_lt d 10 then digit d else 55 + d

-- two digits for each byte
abbrev pub pair_text : ℕ → List ℕ
pair_text b = glyph_of (b / 16) ∷ glyph_of (b % 16) ∷ []

-- bytes in hex, `-` for none
abbrev pub hex_of : List ℕ → List ℕ
hex_of bytes = if length bytes == 0 then dash ∷ [] else flat_map pair_text bytes
