-- A schedule written from its counts and elements. Assumes nothing.
use Rattle.std.specs.Prelude.{◌≡◌, List, [], ◌∷◌, ℕ, ◌+◌, ◌*◌, ◌/◌, ◌%◌, ◌≤◌, get_or}
use Rattle.std.proofs.lemmas.List.Edits.{sets}
use Rattle.rules.specs.Words.{total}
use Rattle.rules.specs.Windows.{Table}
use Rattle.rules.specs.Table.{most_uses, uses}
use Rattle.rules.specs.Schedule.{Schedule}
use Rattle.rules.specs.Fields.{BF, WI, RI, byte_at}
use Rattle.rules.specs.Bytes.{Part, bf, wi, ri, writers_below, readers_below, schedule_length}
use Rattle.rules.specs.Reading.{Grid, table_of}
use Rattle.rules.specs.declared.Tasks.{Tasks}
use Rattle.rules.specs.declared.Signals.{Signals}
use Rattle.rules.specs.declared.Side.{Side}
use Rattle.form.specs.Records.{bf_bytes, use_bytes, users_below}

module _ (tab : Table) where
  -- how many WI and RI records the signals below s have
  unfoldable pub uses_before : ℕ → ℕ
  uses_before s = total (λ r. writers_below tab r tab.tasks + readers_below tab r tab.tasks) s

  -- how many WI and RI records stand before this record
  unfoldable pub number_of : Part → ℕ
  number_of (bf s) = uses_before s
  number_of (wi s k i) = uses_before s + (writers_below tab s k + i)
  number_of (ri s k i) = uses_before s + (writers_below tab s tab.tasks + readers_below tab s k + i)

  -- the schedule of these counts, and of these elements in the order of its WI and RI records
  abbrev pub schedule_of : List ℕ → List ℕ → Schedule
  schedule_of counts elements = record {
    count = λ s. get_or counts s 0;
    writer = λ s k i. get_or elements (number_of (wi s k i)) 0;
    reader = λ s k i. get_or elements (number_of (ri s k i)) 0;
  }

-- ---- as the code counts

module _ (grid : Grid) (instances : List ℕ) (tasks : ℕ) where
  -- the WI and RI records of signal s
  unfoldable pub uses_of : ℕ → ℕ
  uses_of s = users_below grid instances Side.Writers s tasks + users_below grid instances Side.Readers s tasks

  unfoldable pub uses_below : ℕ → ℕ
  uses_below s = total uses_of s

-- ---- one record put after the others

-- the bytes so far, and how many WI and RI records are among them
pub record Written : Type 0 where
  pub out : List ℕ
  pub used : ℕ

unfoldable pub bf_put : List ℕ → ℕ → ℕ → ℕ → List ℕ
bf_put out p s count = sets out p (byte_at BF 0 ∷ byte_at BF 1 ∷ s ∷ count ∷ [])

unfoldable pub use_put : List ℕ → ℕ → List ℕ → ℕ → ℕ → ℕ → ℕ → List ℕ
use_put out p mark s k i element = sets out p (byte_at mark 0 ∷ byte_at mark 1 ∷ s ∷ k ∷ i / 256 ∷ i % 256 ∷ element ∷ [])

-- a record stands after those of s or s + 1 signals and of so many uses
abbrev pub put : List ℕ → List ℕ → Part → Written → Written
put counts elements (bf s) w = record { out = bf_put w.out (bf_bytes * s + use_bytes * w.used) s (get_or counts s 0); used = w.used }
put counts elements (wi s k i) w = record { out = use_put w.out (bf_bytes * (s + 1) + use_bytes * w.used) WI s k i (get_or elements w.used 0); used = w.used + 1 }
put counts elements (ri s k i) w = record { out = use_put w.out (bf_bytes * (s + 1) + use_bytes * w.used) RI s k i (get_or elements w.used 0); used = w.used + 1 }
