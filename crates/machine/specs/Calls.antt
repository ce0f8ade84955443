-- Document 01, "The machine": a step, a read, a write and the open instance, over the numbers, defaults and words that the code keeps. Assumes nothing.
use Rattle.std.specs.Prelude.{ℕ, ◌+◌, Bool, not, List, leb, eqb, replicate, Result, Ok, Err}
use Rattle.std.specs.Option.{ok_or}
use Rattle.rules.specs.Words.{when}
use Rattle.rules.specs.Table.{most_tasks, most_signals, words}
use Rattle.rules.specs.declared.Refusal.{Refusal}
use Rattle.state.specs.Parts.{at, numbers, counts, reads, writes}
use Rattle.state.specs.Fitness as fitness
use Rattle.state.specs.Rows.{inside_of, load, save, published, openings, Lists, advanced, place_of}
use Rattle.machine.specs.declared.Machine.{Machine}
use Rattle.machine.specs.declared.Stepped.{Stepped}
use Rattle.machine.specs.declared.WordRead.{WordRead}
use Rattle.machine.specs.declared.InstanceRead.{InstanceRead}

-- the machine that keeps these lists
abbrev pub keeping : (numbers defaults store : List ℕ) → Machine
keeping n d s = record { numbers = n; defaults = d; store = s }

-- before the first loading: all zero, so not marked as loaded
abbrev pub unloaded : Machine
unloaded = keeping (replicate numbers 0) (replicate most_signals 0) (replicate words 0)

-- marked as loaded, hyper-period and tick in their bounds, all that it keeps inside the block or list it points into
abbrev pub fit : Machine → Bool
fit m = fitness.fit m.numbers

-- What a call answers, and the lists that it may change as it leaves them. Loading alone changes the defaults.
pub record Left : Type 0 where
  pub answer : Result ℕ Refusal
  pub numbers : List ℕ
  pub store : List ℕ

abbrev pub left : Result ℕ Refusal → (numbers store : List ℕ) → Left
left a n s = record { answer = a; numbers = n; store = s }

-- ---- a step

-- openings, at the tick that came
abbrev pub opened : (defaults : List ℕ) → Lists → Left
opened d l = left (Ok 0) l.numbers (openings l.numbers d l.store)

-- closings; the next tick, and at H the copies; openings
unfoldable pub step_in : (numbers defaults store : List ℕ) → Left
step_in n d s = when (not (fitness.fit n)) (left (Err Refusal.Unfit) n s) (opened d (advanced (published n) s))

-- ---- an access

-- where the state has a task's access to a signal now, or why nowhere
abbrev pub position_in : (numbers : List ℕ) → (kind task signal : ℕ) → Result ℕ Refusal
position_in n kind task signal = when (not (fitness.fit n)) (Err Refusal.Unfit) (place_of n kind task signal)

-- ---- a read

abbrev pub word_read : Result ℕ Refusal → ℕ → WordRead
word_read a w = record { answer = a; word = w }

abbrev pub read_at : (store : List ℕ) → Result ℕ Refusal → WordRead
read_at s (Ok p) = word_read (Ok 0) (load s p)
read_at s (Err e) = word_read (Err e) 0

unfoldable pub read_in : (numbers store : List ℕ) → (task signal : ℕ) → WordRead
read_in n s task signal = read_at s (position_in n reads task signal)

-- ---- a write

abbrev pub written_at : (numbers store : List ℕ) → (word : ℕ) → Result ℕ Refusal → Left
written_at n s word (Ok p) = left (Ok 0) n (save s p word)
written_at n s word (Err e) = left (Err e) n s

unfoldable pub write_in : (numbers store : List ℕ) → (task signal word : ℕ) → Left
write_in n s task signal word = written_at n s word (position_in n writes task signal)

-- ---- the open instance

abbrev pub instance_read : Result ℕ Refusal → ℕ → InstanceRead
instance_read a i = record { answer = a; instance = i }

-- which one it is, or why there is none; a task without instances is none of the table's
unfoldable pub instance_in : (numbers : List ℕ) → (task : ℕ) → Result ℕ Refusal
instance_in n task =
    when (not (fitness.fit n)) (Err Refusal.Unfit)
    (when (leb most_tasks task) (Err Refusal.NoAccess)
    (when (eqb (at n (counts + task)) 0) (Err Refusal.NoAccess)
    (ok_or (inside_of n task) Refusal.Outside)))

abbrev pub open_at : Result ℕ Refusal → InstanceRead
open_at (Ok i) = instance_read (Ok 0) i
open_at (Err e) = instance_read (Err e) 0

abbrev pub open_in : (numbers : List ℕ) → (task : ℕ) → InstanceRead
open_in n task = open_at (instance_in n task)

-- ---- the same of a machine

abbrev pub answered : Result ℕ Refusal → Machine → Stepped
answered a m = record { answer = a; machine = m }

-- what a call of m leaves
abbrev pub leaving : Machine → Left → Stepped
leaving m l = answered l.answer (keeping l.numbers m.defaults l.store)

abbrev pub step_of : Machine → Stepped
step_of m = leaving m (step_in m.numbers m.defaults m.store)

abbrev pub read_of : Machine → (task signal : ℕ) → WordRead
read_of m task signal = read_in m.numbers m.store task signal

abbrev pub write_of : Machine → (task signal word : ℕ) → Stepped
write_of m task signal word = leaving m (write_in m.numbers m.store task signal word)
