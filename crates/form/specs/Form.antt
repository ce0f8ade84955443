-- The form of a schedule: 15 to 18 record by record at a running place, then 15, 16, 19 at EN, and 20. Assumes nothing.
use Rattle.std.specs.Prelude.{Bool, false, not, List, [], ◌∷◌, ℕ, ◌+◌, ◌/◌, ◌%◌, ltb, leb, eqb, length, Result, Ok, Err}
use Rattle.rules.specs.Table.{most_elements, words}
use Rattle.rules.specs.Words.{when}
use Rattle.rules.specs.Windows.{Table}
use Rattle.rules.specs.Schedule.{room, base}
use Rattle.rules.specs.Fields.{BF, WI, RI, EN, holds_at, byte_at, mark_at}
use Rattle.rules.specs.Bytes.{Part, bf, wi, ri, parts, schedule_in}
use Rattle.rules.specs.Numbers.{Told, tell, all_done, sum_above}
use Rattle.rules.specs.Answers.{records_say, end_says}
use Rattle.rules.specs.declared.Refusal.{Refusal}
use Rattle.form.specs.Records.{bf_bytes, use_bytes, en_bytes}
use Rattle.form.specs.declared.forms.Place.{Place}

-- 15 to 20: the check of a schedule before its elements are compared
unfoldable pub form_says : Table → List ℕ → Told
form_says tab bytes =
    records_say tab bytes (parts tab)
    (end_says tab bytes
    (when (ltb (room tab) (base (schedule_in tab bytes) tab.signals)) (tell sum_above 0)
    (tell all_done 0)))

-- ---- a list of records walked one after the other

unfoldable pub walked : {A S : Type 0} → (A → S → S) → List A → S → S
walked f [] s = s
walked f (x ∷ xs) s = walked f xs (f x s)

-- ---- one record at a running place

-- the fixed bytes of a signal's record
unfoldable pub bf_stands : List ℕ → ℕ → ℕ → Bool
bf_stands bytes p s =
    when (eqb (byte_at bytes p) (byte_at BF 0))
    (when (eqb (byte_at bytes (p + 1)) (byte_at BF 1))
    (eqb (byte_at bytes (p + 2)) s)
    false)
    false

-- the two bytes of an instance
unfoldable pub instance_stands : List ℕ → ℕ → ℕ → Bool
instance_stands bytes p i =
    when (eqb (byte_at bytes (p + 4)) (i / 256))
    (eqb (byte_at bytes (p + 5)) (i % 256))
    false

-- the fixed bytes of an instance's record
unfoldable pub use_stands : List ℕ → ℕ → List ℕ → ℕ → ℕ → ℕ → Bool
use_stands bytes p mark s k i =
    when (eqb (byte_at bytes p) (byte_at mark 0))
    (when (eqb (byte_at bytes (p + 1)) (byte_at mark 1))
    (when (eqb (byte_at bytes (p + 2)) s)
    (when (eqb (byte_at bytes (p + 3)) k)
    (instance_stands bytes p i)
    false)
    false)
    false)
    false

-- a signal's record: its count holds for the records after it
unfoldable pub signal_step : List ℕ → ℕ → Place → Result Place Refusal
signal_step bytes s place =
    when (not (holds_at bytes place.at bf_bytes)) (Err (Refusal.ScheduleCut place.at))
    (when (not (bf_stands bytes place.at s)) (Err (Refusal.NotFixed place.at))
    (when (ltb (byte_at bytes (place.at + 3)) 1) (Err (Refusal.BadCount place.at))
    (when (ltb most_elements (byte_at bytes (place.at + 3))) (Err (Refusal.BadCount place.at))
    (Ok (record { at = place.at + bf_bytes; count = byte_at bytes (place.at + 3); sum = place.sum + byte_at bytes (place.at + 3) })))))

-- an instance's record
unfoldable pub use_step : List ℕ → List ℕ → ℕ → ℕ → ℕ → Place → Result Place Refusal
use_step bytes mark s k i place =
    when (not (holds_at bytes place.at use_bytes)) (Err (Refusal.ScheduleCut place.at))
    (when (not (use_stands bytes place.at mark s k i)) (Err (Refusal.NotFixed place.at))
    (when (leb place.count (byte_at bytes (place.at + 6))) (Err (Refusal.BadElement place.at))
    (Ok (record { at = place.at + use_bytes; count = place.count; sum = place.sum }))))

-- any record; after one that is wrong nothing is compared
abbrev pub step : List ℕ → Part → Result Place Refusal → Result Place Refusal
step bytes x (Err r) = Err r
step bytes (bf s) (Ok place) = signal_step bytes s place
step bytes (wi s k i) (Ok place) = use_step bytes WI s k i place
step bytes (ri s k i) (Ok place) = use_step bytes RI s k i place

-- ---- the end

-- EN and nothing after it, then the sum of the counts
unfoldable pub end_step : List ℕ → Place → Result ℕ Refusal
end_step bytes place =
    when (not (holds_at bytes place.at en_bytes)) (Err (Refusal.ScheduleCut place.at))
    (when (not (mark_at bytes place.at EN)) (Err (Refusal.NotFixed place.at))
    (when (ltb (place.at + en_bytes) (length bytes)) (Err (Refusal.AfterSchedule (place.at + en_bytes)))
    (when (ltb words place.sum) (Err Refusal.SumAbove)
    (Ok 0))))

abbrev pub end_of : List ℕ → Result Place Refusal → Result ℕ Refusal
end_of bytes (Err r) = Err r
end_of bytes (Ok place) = end_step bytes place
