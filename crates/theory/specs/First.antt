-- Document 01, "What comes back": the answer is that of the first rule that is broken, with its place. proofs/First.antt proves it for 7 to 11, for
-- planning (12, 13, 14), for the live list (23, 12, 14) and for 15 to 22. Assumes nothing.
use Rattle.std.specs.Prelude.{ℕ, ◌+◌, ◌≤◌, ◌<◌, ◌≡◌, ◌↔◌, ◌≢◌, ◌⊎◌, length, get_or}
use mathlib.Core.List.{List, [], ◌∷◌, ◌++◌, flat_map}
use Rattle.rules.specs.Words.{total, gather}
use Rattle.rules.specs.Windows.{Table, opens, closes, hyper, instances}
use Rattle.rules.specs.Values.{Value, carried, by, signal_of, bound, Live, IsValue}
use Rattle.rules.specs.Table.{longest, most_instances, most_uses, uses, Fits}
use Rattle.rules.specs.Schedule.{Schedule, most, room, element_of, base}
use Rattle.rules.specs.Plan.{live_list, plan}
use Rattle.rules.specs.Fields.{EN}
use Rattle.rules.specs.Bytes.{Part, bf, wi, ri, fixed, size, size_of, start_of, parts, schedule_length, schedule_in}
use Rattle.rules.specs.Numbers.{Told, tell, all_done, no_task, long_hyper, many_instances, many_uses, two_publish, many_elements, many_in_all, too_short, schedule_cut, not_fixed, bad_count, bad_element, after_schedule, sum_above, wrong_reader, shared, no_access}
use Rattle.rules.specs.Answers.{table_says, plan_says, live_says, check_says}

-- Rules in their order: the first that is broken gives the answer; where none is, `otherwise` is told.
pub data FirstBrokenElse {A : Type 0} (Broken : A → Type 0) (says : A → Told) (otherwise : Told) : List A → Told → Type 0 where
  done : FirstBrokenElse Broken says otherwise [] otherwise
  this : {x : A} {xs : List A} → Broken x → FirstBrokenElse Broken says otherwise (x ∷ xs) (says x)
  later : {x : A} {xs : List A} {t : Told} → (Broken x → ⊥) → FirstBrokenElse Broken says otherwise xs t → FirstBrokenElse Broken says otherwise (x ∷ xs) t

-- So the rules and their order determine the answer.
abbrev pub FirstOne : {A : Type 0} → (A → Type 0) → (A → Told) → Type 0
FirstOne {A} Broken says = (otherwise : Told) (xs : List A) (t u : Told) → FirstBrokenElse Broken says otherwise xs t → FirstBrokenElse Broken says otherwise xs u → t ≡ u

-- Where none is broken and nothing was planned or filled, all is done at place 0.
abbrev pub FirstBroken : {A : Type 0} → (A → Type 0) → (A → Told) → List A → Told → Type 0
FirstBroken Broken says = FirstBrokenElse Broken says (tell all_done 0)

-- no rule of the list is broken
abbrev pub NoneBroken : {A : Type 0} → (A → Type 0) → List A → Type 0
NoneBroken Broken [] = Unit {0}
NoneBroken Broken (x ∷ xs) = (Broken x → ⊥) × NoneBroken Broken xs

-- ---- the table: 7 to 11

pub data TableRule : Type 0 where
  no_task_rule : TableRule
  long_hyper_rule : TableRule
  many_instances_rule : TableRule
  many_uses_rule : TableRule
  two_publish_rule : (signal : ℕ) → TableRule

-- Instance i of task k and instance j of another task l both write signal s, and publish it at one tick of the hyper-period.
pub record Twice (tab : Table) (s : ℕ) : Type 0 where
  pub k : ℕ
  pub i : ℕ
  pub l : ℕ
  pub j : ℕ
  pub one : IsValue tab (by s k i)
  pub other : IsValue tab (by s l j)
  pub two_tasks : k ≢ l
  pub at_once : closes tab k i ≡ closes tab l j

-- in the order of document 01, signals by number
abbrev pub table_rules : Table → List TableRule
table_rules tab = no_task_rule ∷ long_hyper_rule ∷ many_instances_rule ∷ many_uses_rule ∷ gather tab.signals (λ s. two_publish_rule s ∷ [])

-- when each is given
abbrev pub BrokenTable : Table → TableRule → Type 0
BrokenTable tab no_task_rule = tab.tasks ≡ 0
BrokenTable tab long_hyper_rule = longest < hyper tab
BrokenTable tab many_instances_rule = most_instances < total (instances tab) tab.tasks
BrokenTable tab many_uses_rule = most_uses < uses tab
BrokenTable tab (two_publish_rule s) = Twice tab s

-- number and place
abbrev pub table_told : TableRule → Told
table_told no_task_rule = tell no_task 0
table_told long_hyper_rule = tell long_hyper 0
table_told many_instances_rule = tell many_instances 0
table_told many_uses_rule = tell many_uses 0
table_told (two_publish_rule s) = tell two_publish s

-- Of every table, the answer is that of the first broken rule.
abbrev pub TableFirst : Table → Type 0
TableFirst tab = FirstBroken (BrokenTable tab) table_told (table_rules tab) (table_says tab)

-- So 0 is given exactly where no rule is broken.
abbrev pub TableDone : Table → Type 0
TableDone tab = ((table_says tab).number ≡ all_done) ↔ NoneBroken (BrokenTable tab) (table_rules tab)

-- ---- planning: 12 to 14

pub data PlanRule : Type 0 where
  many_elements_rule : (signal : ℕ) → PlanRule
  many_in_all_rule : PlanRule
  short_buffer : PlanRule

-- in the order of document 01, signals by number
abbrev pub plan_rules : Table → List PlanRule
plan_rules tab = gather tab.signals (λ s. many_elements_rule s ∷ []) ++ (many_in_all_rule ∷ short_buffer ∷ [])

-- when each is given, with a lent buffer of so many bytes
abbrev pub BrokenPlan : Table → ℕ → PlanRule → Type 0
BrokenPlan tab lent (many_elements_rule s) = most tab < (plan tab).count s
BrokenPlan tab lent many_in_all_rule = room tab < base (plan tab) tab.signals
BrokenPlan tab lent short_buffer = lent < schedule_length tab

-- number and place
abbrev pub plan_rule_told : Table → PlanRule → Told
plan_rule_told tab (many_elements_rule s) = tell many_elements s
plan_rule_told tab many_in_all_rule = tell many_in_all 0
plan_rule_told tab short_buffer = tell too_short (schedule_length tab)

-- The answer is that of the first broken rule; where none is, it tells the bytes planned.
abbrev pub PlanFirst : Table → ℕ → Type 0
PlanFirst tab lent = FirstBrokenElse (BrokenPlan tab lent) (plan_rule_told tab) (tell all_done (schedule_length tab)) (plan_rules tab) (plan_says tab lent)

-- ---- the live list: 23, 12, 14

pub data LiveRule : Type 0 where
  no_signal : LiveRule
  many_of_it : LiveRule
  short_list : LiveRule

-- in the order of document 01
abbrev pub live_rules : List LiveRule
live_rules = no_signal ∷ many_of_it ∷ short_list ∷ []

-- when each is given for signal s, with a lent list of so many records
abbrev pub BrokenLive : Table → (s lent : ℕ) → LiveRule → Type 0
BrokenLive tab s lent no_signal = tab.signals ≤ s
BrokenLive tab s lent many_of_it = most tab < (plan tab).count s
BrokenLive tab s lent short_list = lent < length (live_list tab s)

-- number and place
abbrev pub live_rule_told : Table → ℕ → LiveRule → Told
live_rule_told tab s no_signal = tell no_access 0
live_rule_told tab s many_of_it = tell many_elements s
live_rule_told tab s short_list = tell too_short (length (live_list tab s))

-- The answer is that of the first broken rule; where none is, it tells the records filled.
abbrev pub LiveFirst : Table → (s lent : ℕ) → Type 0
LiveFirst tab s lent = FirstBrokenElse (BrokenLive tab s lent) (live_rule_told tab s) (tell all_done (length (live_list tab s))) live_rules (live_says tab s lent)

-- ---- the schedule: 15 to 22

-- The first two name a place, and how many bytes or which bytes are to stand there.
pub data CheckRule : Type 0 where
  cut : (place bytes : ℕ) → CheckRule
  differs : (place : ℕ) (bytes : List ℕ) → CheckRule
  out_of_range : Part → CheckRule
  bytes_after : CheckRule
  sum_above_rule : CheckRule
  sent_wrong_rule : (signal task instance : ℕ) → CheckRule
  shares : (signal task instance : ℕ) → CheckRule

-- where the schedule's EN starts
abbrev pub end_at : Table → ℕ
end_at tab = total (size_of tab) tab.signals

-- per record: whole (15), fixed bytes (16), count or element (17, 18)
abbrev pub record_rules : Table → Part → List CheckRule
record_rules tab x = cut (start_of tab x) (size x) ∷ differs (start_of tab x) (fixed x) ∷ out_of_range x ∷ []

-- 21: one for each RI
abbrev pub reader_rules : Part → List CheckRule
reader_rules (bf s) = []
reader_rules (wi s k i) = []
reader_rules (ri s k i) = sent_wrong_rule s k i ∷ []

-- 22: one for each WI
abbrev pub writer_rules : Part → List CheckRule
writer_rules (bf s) = []
writer_rules (wi s k i) = shares s k i ∷ []
writer_rules (ri s k i) = []

-- in the order of document 01: record by record, EN (15, 16), then 19 to 22, each over the whole schedule
abbrev pub check_rules : Table → List CheckRule
check_rules tab =
    flat_map (record_rules tab) (parts tab)
    ++ (cut (end_at tab) 2 ∷ differs (end_at tab) EN ∷ bytes_after ∷ sum_above_rule ∷ flat_map reader_rules (parts tab) ++ flat_map writer_rules (parts tab))

-- a byte that the table fixes, from this place on, is different
abbrev pub Differs : List ℕ → ℕ → List ℕ → Type 0
Differs bytes p fs = (j : ℕ) × (j < length fs) × (get_or bytes (p + j) 0 ≢ get_or fs j 0)

-- the carried value, or that of a WI before the one of task k, instance i
abbrev pub Before : Value → ℕ → ℕ → Type 0
Before (carried s) k i = Unit {0}
Before (by s l j) k i = (l < k) ⊎ ((l ≡ k) × (j < i))

-- A value u of signal s, carried or of a WI before that of task k, instance i, has its element, and there is a tick at which both are live.
pub record Shares (tab : Table) (E : Schedule) (s k i : ℕ) : Type 0 where
  pub u : Value
  pub is_value : IsValue tab u
  pub of_signal : signal_of u ≡ s
  pub before : Before u k i
  pub tick : ℕ
  pub live : Live tab u tick
  pub also_live : Live tab (by s k i) tick
  pub one_element : element_of E u ≡ E.writer s k i

module _ (tab : Table) (bytes : List ℕ) where
  -- the schedule that the bytes hold
  abbrev E : Schedule
  E = schedule_in tab bytes

  -- when each is given
  abbrev pub BrokenCheck : CheckRule → Type 0
  BrokenCheck (cut p n) = length bytes < p + n
  BrokenCheck (differs p fs) = Differs bytes p fs
  BrokenCheck (out_of_range (bf s)) = (E.count s ≡ 0) ⊎ (most tab < E.count s)
  BrokenCheck (out_of_range (wi s k i)) = E.count s ≤ E.writer s k i
  BrokenCheck (out_of_range (ri s k i)) = E.count s ≤ E.reader s k i
  BrokenCheck bytes_after = end_at tab + 2 < length bytes
  BrokenCheck sum_above_rule = room tab < base E tab.signals
  BrokenCheck (sent_wrong_rule s k i) = E.reader s k i ≢ element_of E (bound tab s (opens tab k i))
  BrokenCheck (shares s k i) = Shares tab E s k i

-- number and place
abbrev pub check_told : Table → CheckRule → Told
check_told tab (cut p n) = tell schedule_cut p
check_told tab (differs p fs) = tell not_fixed p
check_told tab (out_of_range (bf s)) = tell bad_count (start_of tab (bf s))
check_told tab (out_of_range (wi s k i)) = tell bad_element (start_of tab (wi s k i))
check_told tab (out_of_range (ri s k i)) = tell bad_element (start_of tab (ri s k i))
check_told tab bytes_after = tell after_schedule (end_at tab + 2)
check_told tab sum_above_rule = tell sum_above 0
check_told tab (sent_wrong_rule s k i) = tell wrong_reader (start_of tab (ri s k i))
check_told tab (shares s k i) = tell shared (start_of tab (wi s k i))

-- With a table that is accepted, the answer to any bytes is that of the first broken rule.
abbrev pub CheckFirst : Table → Type 0
CheckFirst tab = Fits tab → (bytes : List ℕ) → FirstBroken (BrokenCheck tab bytes) (check_told tab) (check_rules tab) (check_says tab bytes)

-- So 0 is given exactly where no rule is broken.
abbrev pub CheckDone : Table → Type 0
CheckDone tab = Fits tab → (bytes : List ℕ) → ((check_says tab bytes).number ≡ all_done) ↔ NoneBroken (BrokenCheck tab bytes) (check_rules tab)
