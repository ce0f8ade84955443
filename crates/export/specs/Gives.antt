-- The contracts of the functions under C names: the number that is given back, the place where there is one, and what is left in all that is lent.
-- Assumes nothing.
use Rattle.std.specs.Prelude.{ℕ, ◌≡◌, List, length}
use Rattle.rules.specs.Numbers.{Told, told}
use Rattle.rules.specs.Reading.{read_says}
use Rattle.rules.specs.Loading.{load_says}
use Rattle.plan.specs.Planning.{plan_told, plan_out}
use Rattle.lives.specs.declared.LiveValue.{LiveValue}
use Rattle.lives.specs.Lives.{live_told, live_out}
use Rattle.machine.specs.Calls.{keeping, unloaded, Left, step_in, read_in, write_in, open_in}
use Rattle.machine.specs.Load.{load_leaves}

-- the number and the place of what is told
abbrev pub Tells : Told → (number place : ℕ) → Type 0
Tells t number place = (number ≡ t.number) × (place ≡ t.place)

-- and what is left in what was lent
abbrev TellsAndLeaves : {A : Type 0} → Told → A → (number place : ℕ) → (after : A) → Type 0
TellsAndLeaves t left number place after = (number ≡ t.number) × (place ≡ t.place) × (after ≡ left)

-- the number of a call's answer, whose place is 0, and the lists that it may change as it leaves them
abbrev Leaves : Left → (number : ℕ) → (numbers store : List ℕ) → Type 0
Leaves l number n s = (number ≡ (told l.answer).number) × (n ≡ l.numbers) × (s ≡ l.store)

-- ---- tables and schedules

abbrev pub PressTableGives : (table : List ℕ) → (number place : ℕ) → Type 0
PressTableGives table = Tells (read_says table)

abbrev pub PressPlanGives : (table out : List ℕ) → (number place : ℕ) → (after : List ℕ) → Type 0
PressPlanGives table out = TellsAndLeaves (plan_told table (length out)) (plan_out table out)

abbrev pub PressCheckGives : (table schedule : List ℕ) → (number place : ℕ) → Type 0
PressCheckGives table schedule = Tells (load_says table schedule)

abbrev pub PressLiveGives : (table : List ℕ) (signal : ℕ) (list : List LiveValue) → (number place : ℕ) → (after : List LiveValue) → Type 0
PressLiveGives table signal list = TellsAndLeaves (live_told table signal (length list)) (live_out table signal list)

-- ---- the machine: the lists that are lent, what is given back, and the lists after the call

abbrev pub PressNewGives : (numbers' defaults' store' : List ℕ) → Type 0
PressNewGives n' d' s' = keeping n' d' s' ≡ unloaded

abbrev pub PressLoadGives : (numbers defaults store table schedule : List ℕ) → (number place : ℕ) → (numbers' defaults' store' : List ℕ) → Type 0
PressLoadGives n d s table schedule number place n' d' s' = TellsAndLeaves (load_says table schedule) (load_leaves (keeping n d s) table schedule) number place (keeping n' d' s')

abbrev pub PressStepGives : (numbers defaults store : List ℕ) → (number : ℕ) → (numbers' store' : List ℕ) → Type 0
PressStepGives n d s = Leaves (step_in n d s)

-- a read leaves the lists, and gives a word
abbrev pub PressReadGives : (numbers store : List ℕ) → (task signal : ℕ) → (number word : ℕ) → Type 0
PressReadGives n s task signal number word = (number ≡ (told (read_in n s task signal).answer).number) × (word ≡ (read_in n s task signal).word)

-- a write leaves the numbers
abbrev pub PressWriteGives : (numbers store : List ℕ) → (task signal word : ℕ) → (number : ℕ) → (store' : List ℕ) → Type 0
PressWriteGives n s task signal word number = Leaves (write_in n s task signal word) number n

-- the open instance of a task
abbrev pub PressOpenGives : (numbers : List ℕ) → (task : ℕ) → (number instance : ℕ) → Type 0
PressOpenGives n task number instance = (number ≡ (told (open_in n task).answer).number) × (instance ≡ (open_in n task).instance)
