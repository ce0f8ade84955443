-- The first record of a schedule that is wrong, as the code searches for it. Assumes nothing.
use Rattle.std.specs.Prelude.{◌≡◌, Option, Some, None, Bool, true, false, not, ◌&&◌, List, ℕ, ◌+◌, ◌*◌, ◌-◌, ◌/◌, ◌≤◌, ◌<◌, eqb, ltb, length, get_or}
use Rattle.rules.specs.Words.{gather, times, every, when}
use Rattle.rules.specs.Windows.{Table, instances}
use Rattle.rules.specs.Values.{Value, carried, by, opening, until}
use Rattle.rules.specs.Table.{longest, most_instances, most_values}
use Rattle.rules.specs.Schedule.{Schedule, element_of}
use Rattle.rules.specs.Bytes.{Part, writers_below, start_of, schedule_in}
use Rattle.rules.specs.Numbers.{Told, tell}
use Rattle.rules.specs.Answers.{sent_wrong, sharing}
use Rattle.rules.specs.Reading.{Grid, task_of, writes_in, reads_in}
use Rattle.signals.specs.Forms.{until_of}
use Rattle.accept.specs.Accepts.{its_table}
use Rattle.rules.specs.declared.Side.{Side}
use Rattle.form.specs.Records.{permits, use_of, instance_parts}
use Rattle.form.specs.Form.{walked}
use Rattle.sweep.specs.Pass.{element_at, Inside}
use Rattle.sweep.specs.declared.Places.{Places}
use Rattle.faults.specs.declared.view.View.{View}
use Rattle.faults.specs.declared.sharing.Held.{Held}
use Rattle.faults.specs.declared.untils.Writer.{Writer}

-- ---- what a search has at hand

abbrev pub view_table : View → Table
view_table v = its_table v.accepted.now

abbrev pub view_schedule : View → Schedule
view_schedule v = schedule_in (view_table v) v.schedule.now

-- the signal has a record for instance i of task k
abbrev pub Has : View → Side → ℕ → ℕ → Type 0
Has v side k i = (k < v.accepted.now.tasks.count) × (permits v.accepted.now.grid side v.signal k ≡ true) × (i < instances (view_table v) k)

-- where the element of task k's first instance stands
abbrev pub first_of : Places → Side → ℕ → ℕ
first_of places Side.Writers k = get_or places.writers k 0
first_of places Side.Readers k = get_or places.readers k 0

-- ---- records

-- how many records task k has for signal s
unfoldable pub records_in : Table → Grid → Side → ℕ → ℕ → ℕ
records_in tab grid side s k = times (permits grid side s k) (instances tab k)

-- the records of one side of signal s, of the tasks below n
unfoldable pub side_of : Table → Grid → Side → ℕ → ℕ → List Part
side_of tab grid side n s = gather n (λ k. instance_parts side s k (records_in tab grid side s k))

-- how many records task k has on this side of the view's signal, and those of the tasks below n
abbrev pub view_records : View → Side → ℕ → ℕ
view_records v side k = records_in (view_table v) v.accepted.now.grid side v.signal k

abbrev pub view_side : View → Side → ℕ → List Part
view_side v side n = side_of (view_table v) v.accepted.now.grid side n v.signal

-- 21 or 22
abbrev pub wrong_of : Table → Schedule → Side → Part → Bool
wrong_of tab E Side.Readers = sent_wrong tab E
wrong_of tab E Side.Writers = sharing tab E

-- a test may be asked of each record of this side of the signal
abbrev pub CanJudge : View → Side → (ℕ → ℕ → Type 0) → Type 0
CanJudge v side asked = (k i : ℕ) → Has v side k i → asked k i

-- and what it gives is whether the record is wrong
abbrev pub Judges : View → Side → (ℕ → ℕ → Bool → Type 0) → (Part → Bool) → Type 0
Judges v side gives wrong = (k i : ℕ) (b : Bool) → Has v side k i → gives k i b → b ≡ wrong (use_of side v.signal k i)

-- one record more: the first that is wrong stays
abbrev pub seek : Table → (Part → Bool) → Part → Option ℕ → Option ℕ
seek tab wrong x (Some p) = Some p
seek tab wrong x None = when (wrong x) (Some (start_of tab x)) None

-- where the first wrong one of these records starts
abbrev pub first_in : Table → (Part → Bool) → List Part → Option ℕ
first_in tab wrong xs = walked (seek tab wrong) xs None

-- the answer with this number at the fault, else the rest
abbrev pub placed : Option ℕ → ℕ → Told → Told
placed (Some p) n rest = tell n p
placed None n rest = rest

-- ---- clashes

abbrev pub held_of : Table → Schedule → Value → Held
held_of tab E v = record { element = element_of E v; from = opening tab v; until = until tab v }

-- one element, and both live at some tick
unfoldable pub clashing : Held → Held → Bool
clashing a b =
    when (eqb a.element b.element)
    (when (ltb a.from b.until)
    (ltb b.from a.until)
    false)
    false

-- none of the first n values clashes with this one
unfoldable pub apart_from : (ℕ → Held) → Held → ℕ → Bool
apart_from values held n = every n (λ i. not (clashing (values i) held))

-- no value that task l writes does
abbrev pub apart_from_task : Table → Grid → Schedule → ℕ → Held → ℕ → Bool
apart_from_task tab grid E s held l = apart_from (λ j. held_of tab E (by s l j)) held (records_in tab grid Side.Writers s l)

-- no value of an earlier WI does
unfoldable pub apart_from_earlier : Table → Grid → Schedule → ℕ → Held → ℕ → ℕ → Bool
apart_from_earlier tab grid E s held k i = every k (apart_from_task tab grid E s held) && apart_from (λ j. held_of tab E (by s k j)) held i

-- ---- lives that are kept

module _ (v : View) where
  -- until when the value published at tick c is live, as the code works it out
  abbrev pub ends_of : ℕ → ℕ
  ends_of c = until_of v.accepted.now.tasks (writes_in v.accepted.now.grid v.signal) (reads_in v.accepted.now.grid v.signal) v.accepted.now.hyper c

  -- the number of the WI of instance i of task k among those of the signal
  abbrev pub number_of : ℕ → ℕ → ℕ
  number_of k i = writers_below (view_table v) v.signal k + i

  -- the ends of the lives of the carried value and of the first n WI, each at its place
  pub record KeptBelow (n : ℕ) (untils : List ℕ) : Type 0 where
    pub size : length untils ≡ most_values
    pub first : get_or untils most_instances 0 ≡ until (view_table v) (carried v.signal)
    pub ends : (k i : ℕ) → Has v Side.Writers k i → number_of k i < n → get_or untils (number_of k i) 0 ≡ until (view_table v) (by v.signal k i)

  -- those of the tasks below n, and of all
  abbrev pub KeptTo : ℕ → List ℕ → Type 0
  KeptTo n = KeptBelow (number_of n 0)

  abbrev pub Kept : List ℕ → Type 0
  Kept = KeptTo v.accepted.now.tasks.count

-- the WI of task k, by the places of the signal
abbrev pub writer_of : View → ℕ → Writer
writer_of v k = record {
  first = get_or v.places.writers k 0;
  number = (get_or v.places.writers k 0 - get_or v.places.writers 0 0) / 7;
  period = (task_of v.accepted.now.tasks k).period;
  start = (task_of v.accepted.now.tasks k).start;
}

-- the value of instance i of a writer
abbrev pub held_at : Writer → List ℕ → List ℕ → ℕ → Held
held_at w untils bytes i = record { element = element_at bytes w.first i; from = i * w.period + w.start; until = get_or untils (w.number + i) 0 }

abbrev pub carried_in : List ℕ → Held
carried_in untils = record { element = 0; from = 0; until = get_or untils most_instances 0 }

-- instance i has an element, and its number and its opening are in bounds
abbrev pub InReach : Writer → List ℕ → ℕ → Type 0
InReach w bytes i = Inside bytes w.first i × (w.number + i < most_instances) × (i * w.period + w.start ≤ longest)
