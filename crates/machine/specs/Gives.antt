-- The contracts of the machine's functions, by value and over lent lists; that of `Machine::load` is `Loads`. Assumes nothing.
use Rattle.std.specs.Prelude.{ℕ, ◌≡◌, List, Result}
use Rattle.rules.specs.declared.Refusal.{Refusal}
use Rattle.machine.specs.declared.Machine.{Machine}
use Rattle.machine.specs.declared.Stepped.{Stepped}
use Rattle.machine.specs.declared.WordRead.{WordRead}
use Rattle.machine.specs.declared.InstanceRead.{InstanceRead}
use Rattle.machine.specs.Calls.{keeping, unloaded, left, step_in, read_in, write_in, open_in, answered, step_of, read_of, write_of}
use Rattle.machine.specs.Load.{Loads}

-- r is what `Machine::new` gives
abbrev pub NewGives : Machine → Type 0
NewGives r = r ≡ unloaded

-- r is what a step, a read or a write of m gives
abbrev pub StepGives : Machine → Stepped → Type 0
StepGives m r = r ≡ step_of m

abbrev pub ReadGives : Machine → (task signal : ℕ) → WordRead → Type 0
ReadGives m task signal r = r ≡ read_of m task signal

abbrev pub WriteGives : Machine → (task signal word : ℕ) → Stepped → Type 0
WriteGives m task signal word r = r ≡ write_of m task signal word

-- ---- the same over lent lists: r is answered, and what stands in the lists after the call

abbrev pub ListsLoadGives : (numbers defaults store table schedule : List ℕ) → Result ℕ Refusal → (numbers' defaults' store' : List ℕ) → Type 0
ListsLoadGives n d s table schedule r n' d' s' = Loads (keeping n d s) table schedule (answered r (keeping n' d' s'))

abbrev pub ListsStepGives : (numbers defaults store : List ℕ) → Result ℕ Refusal → (numbers' store' : List ℕ) → Type 0
ListsStepGives n d s r n' s' = left r n' s' ≡ step_in n d s

abbrev pub ListsReadGives : (numbers store : List ℕ) → (task signal : ℕ) → WordRead → Type 0
ListsReadGives n s task signal r = r ≡ read_in n s task signal

abbrev pub ListsWriteGives : (numbers store : List ℕ) → (task signal word : ℕ) → Result ℕ Refusal → (store' : List ℕ) → Type 0
ListsWriteGives n s task signal word r s' = left r n s' ≡ write_in n s task signal word

abbrev pub ListsOpenGives : (numbers : List ℕ) → (task : ℕ) → InstanceRead → Type 0
ListsOpenGives n task r = r ≡ open_in n task
