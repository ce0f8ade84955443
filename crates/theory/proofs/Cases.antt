-- The pass on cases of document 01, with schedules that pass and schedules that do not: one statement over one list. Assumes nothing.
use Prim.Native.Nat.{ℕ, ◌+◌}
use mathlib.Core.Path.{◌≡◌, refl}
use mathlib.Core.Bool.{Bool, true, false}
use mathlib.Core.List.{List, [], ◌∷◌, map}
use lib.ListN.{get_or}
use Rattle.rules.specs.Words.{gather}
use Rattle.rules.specs.Euclid.{gcd_in, gcd_of, lcm_of}
use Rattle.rules.specs.Windows.{Table, lcm_all, hyper}
use Rattle.rules.specs.Cases.{A, D, table, writer, reader}
use Rattle.theory.specs.Sweep.{events, through, acted, sweep}

-- a table, the elements of its writer and of its reader instances of signal 0, and whether they pass
pub record Sent : Type 0 where
  pub on : Table
  pub writers : List ℕ
  pub readers : List ℕ
  pub right : Bool

abbrev sent : Table → List ℕ → List ℕ → Bool → Sent
sent t ws rs b = record { on = t; writers = ws; readers = rs; right = b }

abbrev pub found : Sent → Bool
found x = (sweep x.on (record { count = λ s. 0; writer = λ s k i. get_or x.writers (k + i) 0; reader = λ s k i. get_or x.readers i 0 }) 0).right

abbrev sents : List Sent
sents =
    -- A, and I
    sent A (1 ∷ []) (0 ∷ 1 ∷ []) true
    ∷ sent A (1 ∷ []) (0 ∷ 0 ∷ []) false
    -- C: publishing comes before opening
    ∷ sent (table 2 1 (writer 0 5 10 ∷ reader 5 10 10 ∷ [])) (1 ∷ []) (1 ∷ []) true
    ∷ sent (table 2 1 (writer 0 5 10 ∷ reader 5 10 10 ∷ [])) (1 ∷ []) (0 ∷ []) false
    -- D, and H
    ∷ sent D (1 ∷ 0 ∷ []) (1 ∷ []) true
    ∷ sent D (1 ∷ 1 ∷ []) (1 ∷ []) false
    -- E, and the carried value freed while the slow reader still holds it
    ∷ sent (table 2 1 (writer 0 2 5 ∷ reader 0 9 10 ∷ [])) (1 ∷ 2 ∷ []) (0 ∷ []) true
    ∷ sent (table 2 1 (writer 0 2 5 ∷ reader 0 9 10 ∷ [])) (1 ∷ 0 ∷ []) (0 ∷ []) false
    -- G, and two that are written at one time in one element
    ∷ sent (table 2 1 (writer 0 4 10 ∷ writer 2 6 10 ∷ [])) (1 ∷ 2 ∷ []) [] true
    ∷ sent (table 2 1 (writer 0 4 10 ∷ writer 2 6 10 ∷ [])) (1 ∷ 1 ∷ []) [] false
    ∷ []

pub as_swept : map found sents ≡ map (λ (x : Sent). x.right) sents
unfolding gather gcd_in gcd_of lcm_of lcm_all hyper events through acted sweep
as_swept = refl

-- A: both open at 0, task 0 closes at 4, task 1 closes and opens at 5 and closes at 10
pub events_A : events A ≡ 16 ∷ 17 ∷ 128 ∷ 161 ∷ 177 ∷ 321 ∷ []
unfolding gather gcd_in gcd_of lcm_of lcm_all hyper events
events_A = refl
