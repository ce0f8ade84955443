-- Cases A and C to J of document 01 about what the public functions give by their contracts, from bytes to bytes: one statement over one list. Case B, the
-- machine's, is in rules/specs/Cases from bytes too, and promises/specs/Runs says that the code's machine replies as that one does.
-- So a check that refuses all (A) does not meet its contract, nor one that passes all (H, I). Assumes nothing.
use Rattle.std.specs.Prelude.{ℕ, ◌≡◌, List, [], ◌∷◌, ◌++◌, map, length, replicate}
use Rattle.rules.specs.Windows.{Table}
use Rattle.rules.specs.Cases.{A, D, table, writer, reader, plain, bf, wi, ri, en, bytes_A, bytes_D}
use Rattle.rules.specs.Numbers.{Told, tell}
use Rattle.rules.specs.Encode.{encode}
use Rattle.rules.specs.Reading.{read_says}
use Rattle.rules.specs.Loading.{load_says}
use Rattle.plan.specs.Planning.{plan_told, plan_out}
use Rattle.lives.specs.declared.LiveValue.{LiveValue}
use Rattle.lives.specs.Lives.{live_told, live_out}

-- what is asked: of `read_table`, of `plan` with the lent buffer, of `live_list` with the lent list, and of `check_schedule`
pub data Asked : Type 0 where
  reading : (table : List ℕ) → Asked
  planning : (table out : List ℕ) → Asked
  listing : (table : List ℕ) (signal : ℕ) (list : List LiveValue) → Asked
  checking : (table schedule : List ℕ) → Asked

-- number and place, with what is left in what was lent
pub data Given : Type 0 where
  tells : Told → Given
  writes : Told → (out : List ℕ) → Given
  fills : Told → (list : List LiveValue) → Given

abbrev pub given : Asked → Given
given (reading t) = tells (read_says t)
given (planning t out) = writes (plan_told t (length out)) (plan_out t out)
given (listing t s list) = fills (live_told t s (length list)) (live_out t s list)
given (checking t e) = tells (load_says t e)

pub record Case : Type 0 where
  pub asked : Asked
  pub answered : Given

abbrev case : Asked → Given → Case
case x g = record { asked = x; answered = g }

-- ---- records

abbrev value : ℕ → ℕ → ℕ → ℕ → ℕ → LiveValue
value k i a b e = record { task = k; instance = i; from = a; until = b; element = e }

-- a byte and a record that stood there before
abbrev untouched : List ℕ
untouched = 170 ∷ []

abbrev blank : LiveValue
blank = value 170 43690 170 170 170

-- ---- the cases

abbrev C : Table
C = table 2 1 (writer 0 5 10 ∷ reader 5 10 10 ∷ [])

abbrev E : Table
E = table 2 1 (writer 0 2 5 ∷ reader 0 9 10 ∷ [])

abbrev F : Table
F = table 2 1 (writer 0 5 5 ∷ writer 0 10 10 ∷ [])

abbrev G : Table
G = table 2 1 (writer 0 4 10 ∷ writer 2 6 10 ∷ [])

abbrev pub cases : List Case
cases =
    -- A: 27 bytes at the front, a byte after them stays; one byte short is refused
    case (planning (encode A) (replicate 27 0 ++ untouched)) (writes (tell 0 27) (bytes_A 1 ++ untouched))
    ∷ case (planning (encode A) (replicate 26 0)) (writes (tell 14 27) (replicate 26 0))
    ∷ case (listing (encode A) 0 (replicate 3 blank)) (fills (tell 0 2) (value 255 0 0 5 0 ∷ value 0 0 0 10 1 ∷ blank ∷ []))
    ∷ case (listing (encode A) 0 (replicate 1 blank)) (fills (tell 14 2) (replicate 1 blank))
    ∷ case (listing (encode A) 1 (replicate 3 blank)) (fills (tell 23 0) (replicate 3 blank))
    ∷ case (checking (encode A) (bytes_A 1)) (tells (tell 0 0))
    -- C, D, E and G: their counts and elements
    ∷ case (planning (encode C) (replicate 20 0)) (writes (tell 0 20) (bf 2 ++ wi 0 0 1 ++ ri 1 0 1 ++ en))
    ∷ case (planning (encode D) (replicate 27 0)) (writes (tell 0 27) (bytes_D 0))
    ∷ case (listing (encode D) 0 (replicate 3 blank)) (fills (tell 0 3) (value 255 0 0 2 0 ∷ value 0 0 0 7 1 ∷ value 0 1 5 10 0 ∷ []))
    ∷ case (planning (encode E) (replicate 27 0)) (writes (tell 0 27) (bf 3 ++ wi 0 0 1 ++ wi 0 1 2 ++ ri 1 0 0 ++ en))
    ∷ case (planning (encode G) (replicate 20 0)) (writes (tell 0 20) (bf 3 ++ wi 0 0 1 ++ wi 1 0 2 ++ en))
    -- F: refused, and nothing written
    ∷ case (planning (encode F) untouched) (writes (tell 11 0) untouched)
    -- H and I
    ∷ case (checking (encode D) (bytes_D 1)) (tells (tell 22 11))
    ∷ case (checking (encode A) (bytes_A 0)) (tells (tell 21 18))
    -- J
    ∷ case (reading []) (tells (tell 1 0))
    ∷ case (reading en) (tells (tell 7 0))
    ∷ case (checking [] []) (tells (tell 1 0))
    ∷ case (planning (encode (table 1 0 (plain 0 4 10 ∷ []))) (replicate 3 170)) (writes (tell 0 2) (en ++ untouched))
    ∷ []

abbrev pub AsDocument01Says : Type 0
AsDocument01Says = map (λ (x : Case). given x.asked) cases ≡ map (λ (x : Case). x.answered) cases
