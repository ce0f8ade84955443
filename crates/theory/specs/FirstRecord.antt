-- Document 01, "What comes back", 1 to 6, said of the bytes alone: when the record at a place breaks each rule, and that reading tells the first broken one.
-- proofs/FirstRecord.antt proves it. Assumes nothing.
use Rattle.std.specs.Prelude.{ℕ, ◌+◌, ◌≤◌, ◌<◌, ◌≡◌, List, [], ◌∷◌, ◌↔◌, ◌≢◌, ◌⊎◌, eqb, length, take, drop}
use Rattle.rules.specs.Words.{bit}
use Rattle.rules.specs.Table.{most_tasks, most_signals, most_accesses, longest}
use Rattle.rules.specs.Fields.{TK, SG, RD, WR, EN, byte_at, word_at}
use Rattle.rules.specs.Numbers.{Told, tell, all_done, table_cut, bad_mark, too_many, bad_field, not_after, after_end}
use Rattle.rules.specs.Reading.{table_in}
use Rattle.theory.specs.First.{FirstBroken, NoneBroken, table_rules, BrokenTable, table_told}

-- ---- the records of a table

pub data Mark : Type 0 where
  tk : Mark
  sg : Mark
  rd : Mark
  wr : Mark
  en : Mark

-- its two bytes
abbrev pub letters : Mark → List ℕ
letters tk = TK
letters sg = SG
letters rd = RD
letters wr = WR
letters en = EN

-- bytes with mark
abbrev pub record_size : Mark → ℕ
record_size tk = 14
record_size sg = 6
record_size rd = 4
record_size wr = 4
record_size en = 2

-- order: all TK, all SG, all accesses, EN
abbrev pub section_of : Mark → ℕ
section_of tk = 1
section_of sg = 2
section_of rd = 3
section_of wr = 3
section_of en = 4

-- the most records of its section
abbrev pub most_of : Mark → ℕ
most_of tk = most_tasks
most_of sg = most_signals
most_of rd = most_accesses
most_of wr = most_accesses
most_of en = 1

-- a record by its mark and where it starts
pub record Record : Type 0 where
  pub mark : Mark
  pub place : ℕ

-- how many of these are of the mark's section
abbrev pub how_many : Mark → List Record → ℕ
how_many m [] = 0
how_many m (x ∷ xs) = bit (eqb (section_of x.mark) (section_of m)) + how_many m xs

-- the mark stands after these records, the latest first, in section order
abbrev pub InOrder : List Record → Mark → Type 0
InOrder [] m = Unit {0}
InOrder (x ∷ xs) m = section_of x.mark ≤ section_of m

-- ---- bytes at a place

module _ (bytes : List ℕ) where
  -- the mark's two bytes stand at p
  abbrev pub MarkAt : ℕ → Mark → Type 0
  MarkAt p m = take 2 (drop p bytes) ≡ letters m

  -- RD or WR
  abbrev pub AccessAt : ℕ → Type 0
  AccessAt p = MarkAt p rd ⊎ MarkAt p wr

  -- the access at p comes after the one at q: by task, then signal, then RD before WR
  pub data Rises (q p : ℕ) : Type 0 where
    by_task : byte_at bytes (q + 2) < byte_at bytes (p + 2) → Rises q p
    by_signal : byte_at bytes (q + 2) ≡ byte_at bytes (p + 2) → byte_at bytes (q + 3) < byte_at bytes (p + 3) → Rises q p
    rd_before_wr : byte_at bytes (q + 2) ≡ byte_at bytes (p + 2) → byte_at bytes (q + 3) ≡ byte_at bytes (p + 3) → MarkAt q rd → MarkAt p wr → Rises q p

  -- the record before p is an access, and what stands at p does not come after it
  abbrev pub NotAfter : List Record → ℕ → Type 0
  NotAfter [] p = ⊥
  NotAfter (x ∷ xs) p = AccessAt x.place × (Rises x.place p → ⊥)

-- ---- the rules of one record

-- the fields that have a range
pub data Field : Type 0 where
  period : Field
  end : Field
  task : Field
  signal : Field

pub data ReadRule : Type 0 where
  mark_cut : ReadRule
  bad_mark_rule : ReadRule
  record_cut : ReadRule
  too_many_rule : ReadRule
  bad_field_rule : Field → ReadRule
  not_after_rule : ReadRule
  after_end_rule : ReadRule

-- in the order of document 01: two bytes for the mark (1), mark (2), whole record (1), number of records (3), fields (4), order (5); after EN (6)
abbrev pub read_rules : List ReadRule
read_rules =
    mark_cut ∷ bad_mark_rule ∷ record_cut ∷ too_many_rule ∷ bad_field_rule period ∷ bad_field_rule end ∷ bad_field_rule task ∷ bad_field_rule signal ∷ not_after_rule ∷ after_end_rule ∷ []

-- when the record at p breaks each, after the records before it, the latest first
module _ (bytes : List ℕ) (before : List Record) (p : ℕ) where
  abbrev pub BrokenRead : ReadRule → Type 0
  -- fewer than two bytes stand there
  BrokenRead mark_cut = length bytes < p + 2
  -- they are no mark, or none that is in order
  BrokenRead bad_mark_rule = (m : Mark) → MarkAt bytes p m → InOrder before m → ⊥
  -- the table ends inside the record
  BrokenRead record_cut = (m : Mark) × MarkAt bytes p m × (length bytes < p + record_size m)
  -- its section has as many as it may
  BrokenRead too_many_rule = (m : Mark) × MarkAt bytes p m × (most_of m ≤ how_many m before)
  -- TK: the period is not 1 to 10,000; the end is not after the start, or it is after the period
  BrokenRead (bad_field_rule period) = MarkAt bytes p tk × ((word_at bytes (p + 2) ≡ 0) ⊎ (longest < word_at bytes (p + 2)))
  BrokenRead (bad_field_rule end) = MarkAt bytes p tk × ((word_at bytes (p + 10) ≤ word_at bytes (p + 6)) ⊎ (word_at bytes (p + 2) < word_at bytes (p + 10)))
  -- RD, WR: the table has no such task; no such signal
  BrokenRead (bad_field_rule task) = AccessAt bytes p × (how_many tk before ≤ byte_at bytes (p + 2))
  BrokenRead (bad_field_rule signal) = AccessAt bytes p × (how_many sg before ≤ byte_at bytes (p + 3))
  -- an access does not come after the one before
  BrokenRead not_after_rule = AccessAt bytes p × NotAfter bytes before p
  -- EN, and bytes after it
  BrokenRead after_end_rule = MarkAt bytes p en × (p + 2 < length bytes)

-- number and place: where the record starts, for 6 the first byte after EN
abbrev pub read_told : ℕ → ReadRule → Told
read_told p mark_cut = tell table_cut p
read_told p bad_mark_rule = tell bad_mark p
read_told p record_cut = tell table_cut p
read_told p too_many_rule = tell too_many p
read_told p (bad_field_rule f) = tell bad_field p
read_told p not_after_rule = tell not_after p
read_told p after_end_rule = tell after_end (p + 2)

module _ (bytes : List ℕ) (before : List Record) (p : ℕ) where
  -- the record at p breaks no rule
  abbrev pub BreaksNone : Type 0
  BreaksNone = NoneBroken (BrokenRead bytes before p) read_rules

  -- it breaks one, and t tells the first
  abbrev pub BreaksFirst : Told → Type 0
  BreaksFirst t = FirstBroken (BrokenRead bytes before p) (read_told p) read_rules t × (t.number ≢ all_done)

-- ---- the whole table

-- These are the records from the first byte up to place p, the latest first: each is whole and breaks no rule.
pub data SoFar (bytes : List ℕ) : List Record → ℕ → Type 0 where
  start : SoFar bytes [] 0
  then : {before : List Record} {p : ℕ} (m : Mark) → m ≢ en → SoFar bytes before p → MarkAt bytes p m → BreaksNone bytes before p
      → SoFar bytes (record { mark = m; place = p } ∷ before) (p + record_size m)

-- After such records one breaks a rule, and t tells the first that it breaks.
pub record RecordRefused (bytes : List ℕ) (t : Told) : Type 0 where
  pub before : List Record
  pub place : ℕ
  pub so_far : SoFar bytes before place
  pub broken : BreaksFirst bytes before place t

-- After such records EN stands, and it breaks no rule.
pub record AllRead (bytes : List ℕ) : Type 0 where
  pub before : List Record
  pub place : ℕ
  pub so_far : SoFar bytes before place
  pub end : MarkAt bytes place en
  pub whole : BreaksNone bytes before place

-- What reading is to say of any bytes:
pub record ReadFirst (bytes : List ℕ) (said : Told) : Type 0 where
  -- a number from 1 to 6, with its place, exactly where a record breaks that rule first and no record before it breaks any;
  pub record_refused : (t : Told) → RecordRefused bytes t ↔ ((said ≡ t) × (1 ≤ t.number) × (t.number ≤ after_end))
  -- where no record breaks a rule, the first broken rule of 7 to 11 on the whole table, or that all is done;
  pub whole_refused : AllRead bytes → FirstBroken (BrokenTable (table_in bytes)) table_told (table_rules (table_in bytes)) said
  -- and one of the two is so.
  pub either : AllRead bytes ⊎ ((t : Told) × RecordRefused bytes t)
