-- Demand 3, about `machine::Machine`, `machine::lists` and the C functions over a machine's lists, in any mixture: after loading any table with any schedule that passes, no permitted read or write inside its window is refused,
-- and each read gives the value that its signal had when the reader's window opened. proofs/Runs.antt proves it. Assumes nothing.
use Rattle.std.specs.Prelude.{ℕ, ◌≡◌, true, false, List, [], ◌∷◌, map, ◌↔◌, ◌⊎◌, Result, Ok}
use Rattle.rules.specs.Windows.{Table, opens, is_open}
use Rattle.rules.specs.Schedule.{Schedule, Passes}
use Rattle.rules.specs.Numbers.{tell, told, all_done, no_access, outside, unfit}
use Rattle.rules.specs.Bytes.{bytes_of}
use Rattle.rules.specs.Reading.{table_in, read_says}
use Rattle.rules.specs.Meaning.{word, Call, step, read, write, now, value_at}
use Rattle.rules.specs.Stores.{word_in}
use Rattle.rules.specs.Loading.{Request, load, call, accepts, Reply, Story, untold, since, telling, meant_replies}
use Rattle.rules.specs.declared.Refusal.{Refusal}
use Rattle.theory.specs.Promises.{Permitted}
use Rattle.machine.specs.declared.Machine.{Machine}
use Rattle.machine.specs.declared.Stepped.{Stepped}
use Rattle.machine.specs.declared.WordRead.{WordRead}
use Rattle.machine.specs.Calls.{keeping, unloaded, fit}
use Rattle.machine.specs.Load.{Loads}
use Rattle.machine.specs.Gives.{NewGives, StepGives, ReadGives, WriteGives, ListsLoadGives, ListsStepGives, ListsReadGives, ListsWriteGives}
use Rattle.export.specs.Gives.{PressNewGives, PressLoadGives, PressStepGives, PressReadGives, PressWriteGives}
use Rattle.simulation.specs.Simulates.{Said, said, outcome_said}

-- ---- what is called

-- A call of the machine m by a function that users call, each by its contract: what was asked, the number, place and word that it said, and the machine
-- after it. Where C is given no place, it is 0.
pub data Gives (m : Machine) : Request → Said → Machine → Type 0 where
  -- by value: m.load, m.step, m.read and m.write
  loads : (table schedule : List ℕ) (r : Stepped) → Loads m table schedule r → Gives m (load table schedule) (said (told r.answer) 0) r.machine
  steps : (r : Stepped) → StepGives m r → Gives m (call step) (said (told r.answer) 0) r.machine
  reads : (task signal : ℕ) (r : WordRead) → ReadGives m task signal r → Gives m (call (read task signal)) (said (told r.answer) r.word) m
  writes : (task signal w : ℕ) (r : Stepped) → WriteGives m task signal w r → Gives m (call (write task signal (word w))) (said (told r.answer) 0) r.machine
  -- over m's lists, in place: machine::lists
  lists_loads : (table schedule : List ℕ) (r : Result ℕ Refusal) (n d s : List ℕ) → ListsLoadGives m.numbers m.defaults m.store table schedule r n d s
      → Gives m (load table schedule) (said (told r) 0) (keeping n d s)
  lists_steps : (r : Result ℕ Refusal) (n s : List ℕ) → ListsStepGives m.numbers m.defaults m.store r n s → Gives m (call step) (said (told r) 0) (keeping n m.defaults s)
  lists_reads : (task signal : ℕ) (r : WordRead) → ListsReadGives m.numbers m.store task signal r → Gives m (call (read task signal)) (said (told r.answer) r.word) m
  lists_writes : (task signal w : ℕ) (r : Result ℕ Refusal) (s : List ℕ) → ListsWriteGives m.numbers m.store task signal w r s
      → Gives m (call (write task signal (word w))) (said (told r) 0) (keeping m.numbers m.defaults s)
  -- from C: press_lists_load, press_lists_step, press_lists_read and press_lists_write
  press_loads : (table schedule : List ℕ) (number place : ℕ) (n d s : List ℕ) → PressLoadGives m.numbers m.defaults m.store table schedule number place n d s
      → Gives m (load table schedule) (said (tell number place) 0) (keeping n d s)
  press_steps : (number : ℕ) (n s : List ℕ) → PressStepGives m.numbers m.defaults m.store number n s → Gives m (call step) (said (tell number 0) 0) (keeping n m.defaults s)
  press_reads : (task signal number w : ℕ) → PressReadGives m.numbers m.store task signal number w → Gives m (call (read task signal)) (said (tell number 0) w) m
  press_writes : (task signal w number : ℕ) (s : List ℕ) → PressWriteGives m.numbers m.store task signal w number s
      → Gives m (call (write task signal (word w))) (said (tell number 0) 0) (keeping m.numbers m.defaults s)

-- Requests of any kind in any order, made by any of these functions, each of the machine that the one before left.
pub data Run : Machine → List Request → List Said → Machine → Type 0 where
  none : (m : Machine) → Run m [] [] m
  next : (m n o : Machine) (e : Request) (a : Said) (es : List Request) (rs : List Said) → Gives m e a n → Run n es rs o → Run m (e ∷ es) (a ∷ rs) o

-- ---- what is promised

-- the number, place and word of a reply
abbrev pub reply_said : Reply → Said
reply_said (Reply.told t) = said t 0
reply_said (Reply.said o) = outcome_said o

-- the table that was loaded last, with the calls since then: a refused loading is none of them
unfoldable pub story_of : Story → List Request → Story
story_of h [] = h
story_of h (e ∷ es) = story_of (telling h e) es

-- Demand 1 of any call, however bad what it is given.
pub record AnyCall (m : Machine) (e : Request) (a : Said) (n : Machine) : Type 0 where
  -- A refusal leaves the machine as it was, and has word 0.
  pub refused : (a.told.number ≡ all_done → ⊥) → (n ≡ m) × (a.word ≡ 0)
  -- 25 is given to a step, a read or a write exactly on states that are not fit; no request leads from a fit state to one that is not,
  pub unfit_is : (c : Call) → e ≡ call c → (a.told.number ≡ unfit) ↔ (fit m ≡ false)
  pub stays_fit : fit m ≡ true → fit n ≡ true
  -- and an accepted loading leads from any state to a fit one.
  pub accepted : (table schedule : List ℕ) → e ≡ load table schedule → a.told.number ≡ all_done → fit n ≡ true

abbrev pub AnyCalls : Type 0
AnyCalls = (m : Machine) (e : Request) (a : Said) (n : Machine) → Gives m e a n → AnyCall m e a n

-- What the next call of m gives, by whichever function, where `tab` was loaded last and h are the calls since then, the newest first.
pub record NextCall (tab : Table) (h : List Call) (m : Machine) : Type 0 where
  -- 25 is not given: the state is fit.
  pub ready : fit m ≡ true
  -- A permitted read inside its window is not refused, and gives the value that the signal had when the window opened.
  pub read_inside : (k s i : ℕ) → Permitted tab tab.reads k s → is_open tab k i (now h) ≡ true → (a : Said) (n : Machine) → Gives m (call (read k s)) a n
      → a ≡ said (tell all_done 0) (word_in (value_at tab h s (opens tab k i)))
  -- A permitted write inside its window is not refused, and no step is.
  pub write_inside : (k s w i : ℕ) → Permitted tab tab.writes k s → is_open tab k i (now h) ≡ true → (a : Said) (n : Machine) → Gives m (call (write k s (word w))) a n → a ≡ said (tell all_done 0) 0
  pub steps : (a : Said) (n : Machine) → Gives m (call step) a n → a ≡ said (tell all_done 0) 0
  -- Outside its window either is refused with 24, and without such an access with 23; the machine stays as it was.
  pub read_outside : (k s : ℕ) → Permitted tab tab.reads k s → ((i : ℕ) → is_open tab k i (now h) ≡ true → ⊥) → (a : Said) (n : Machine) → Gives m (call (read k s)) a n → (a ≡ said (tell outside 0) 0) × (n ≡ m)
  pub write_outside : (k s w : ℕ) → Permitted tab tab.writes k s → ((i : ℕ) → is_open tab k i (now h) ≡ true → ⊥) → (a : Said) (n : Machine) → Gives m (call (write k s (word w))) a n → (a ≡ said (tell outside 0) 0) × (n ≡ m)
  pub read_unknown : (k s : ℕ) → (Permitted tab tab.reads k s → ⊥) → (a : Said) (n : Machine) → Gives m (call (read k s)) a n → (a ≡ said (tell no_access 0) 0) × (n ≡ m)
  pub write_unknown : (k s w : ℕ) → (Permitted tab tab.writes k s → ⊥) → (a : Said) (n : Machine) → Gives m (call (write k s (word w))) a n → (a ≡ said (tell no_access 0) 0) × (n ≡ m)

-- After the requests es, answered by rs, the machine is m.
pub record AsPromised (es : List Request) (rs : List Said) (m : Machine) : Type 0 where
  -- All answers are as they are meant: a loading by its bytes, a call by the table loaded last and the calls since then, with no element or hyper-period in it.
  pub answers : rs ≡ map reply_said (meant_replies untold es)
  -- So it goes on with the next call,
  pub running : (tab : Table) (h : List Call) → story_of untold es ≡ since tab h → NextCall tab h m
  -- and nothing has happened to the machine where no loading was accepted yet.
  pub untouched : story_of untold es ≡ untold → m ≡ unloaded

-- So it is for all requests, from `Machine::new` and `press_lists_new` on,
pub record RunsAsPromised : Type 0 where
  pub new : (m : Machine) → NewGives m ⊎ PressNewGives m.numbers m.defaults m.store → (es : List Request) (rs : List Said) (n : Machine) → Run m es rs n → AsPromised es rs n
  -- and from an accepted loading on, whatever machine it is made of: a running one, one that was tampered with, memory of zeros.
  pub anew : (m : Machine) (table schedule : List ℕ) → accepts table schedule ≡ true → (es : List Request) (rs : List Said) (n : Machine)
      → Run m (load table schedule ∷ es) rs n → AsPromised (load table schedule ∷ es) rs n

-- A loading is accepted exactly where the table is, and the schedule's bytes are those of one that passes; a refused one leaves the machine as it was.
pub record LoadedExactly (m : Machine) (table schedule : List ℕ) (r : Stepped) : Type 0 where
  pub accepted : ((told r.answer).number ≡ all_done) ↔ (((read_says table).number ≡ all_done) × ((E : Schedule) × Passes (table_in table) E × (schedule ≡ bytes_of (table_in table) E)))
  pub done : (told r.answer).number ≡ all_done → r.answer ≡ Ok 0
  pub refused : ((told r.answer).number ≡ all_done → ⊥) → r.machine ≡ m
  -- No other result meets the contract.
  pub one : (q : Stepped) → Loads m table schedule q → q ≡ r

abbrev pub LoadsExactly : Type 0
LoadsExactly = (m : Machine) (table schedule : List ℕ) (r : Stepped) → Loads m table schedule r → LoadedExactly m table schedule r
