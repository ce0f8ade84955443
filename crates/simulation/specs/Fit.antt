-- What document 01 says of fit and unfit states, about the definitions of the calls. Assumes nothing.
use Rattle.std.specs.Prelude.{ℕ, ◌+◌, ◌≤◌, ◌<◌, ◌≡◌, true, false, List, ◌↔◌, ◌⊎◌, Ok, Err}
use Rattle.rules.specs.Numbers.{told, all_done}
use Rattle.rules.specs.Table.{most_tasks, most_signals, most_uses, words, longest}
use Rattle.rules.specs.declared.Refusal.{Refusal}
use Rattle.state.specs.Parts.{at, none, cell, loaded, hyper, counts, reads, writes, uses, carried, held, tick}
use Rattle.state.specs.Rows.{lacks, use_of}
use Rattle.machine.specs.declared.Machine.{Machine}
use Rattle.machine.specs.declared.Stepped.{Stepped}
use Rattle.machine.specs.Calls.{fit, step_of, read_of, write_of}
use Rattle.machine.specs.Load.{Loads}

-- an access that a task does not have, or one whose uses, as many as the task has instances, are inside the list of uses
abbrev pub AccessInside : (count first : ℕ) → Type 0
AccessInside count first = (first ≡ none) ⊎ ((first < most_uses) × (first + count ≤ most_uses))

-- Document 01: a state is fit exactly when it is marked as loaded, its hyper-period is 1 to 10,000, its tick is below that, and every count, index and
-- element number it keeps is inside the block or list it points into.
pub record IsFit (n : List ℕ) : Type 0 where
  pub marked : at n loaded ≡ 1
  pub lasting : (1 ≤ at n hyper) × (at n hyper ≤ longest)
  pub within : at n tick < at n hyper
  pub instances : (t : ℕ) → t < most_tasks → at n (counts + t) ≤ most_uses
  pub reading : (t s : ℕ) → t < most_tasks → s < most_signals → AccessInside (at n (counts + t)) (at n (cell reads t s))
  pub writing : (t s : ℕ) → t < most_tasks → s < most_signals → AccessInside (at n (counts + t)) (at n (cell writes t s))
  pub used : (k : ℕ) → k < most_uses → at n (uses + k) < words
  pub elements : (s : ℕ) → s < most_signals → at n (carried + s) < words
  pub published : (s : ℕ) → s < most_signals → at n (held + s) < words

abbrev pub FitExactly : Machine → Type 0
FitExactly m = (fit m ≡ true) ↔ IsFit m.numbers

-- 25 is given exactly on states that are not fit.
pub record UnfitExact (m : Machine) : Type 0 where
  pub step : ((step_of m).answer ≡ (Err Refusal.Unfit)) ↔ (fit m ≡ false)
  pub read : (task signal : ℕ) → ((read_of m task signal).answer ≡ (Err Refusal.Unfit)) ↔ (fit m ≡ false)
  pub write : (task signal word : ℕ) → ((write_of m task signal word).answer ≡ (Err Refusal.Unfit)) ↔ (fit m ≡ false)

-- A fit state stays fit through every call, and an accepted loading makes any state fit, so 25 is never given on one reached from loading.
pub record StaysFit (m : Machine) : Type 0 where
  pub step : fit m ≡ true → fit (step_of m).machine ≡ true
  pub write : (task signal word : ℕ) → fit m ≡ true → fit (write_of m task signal word).machine ≡ true
  pub load : (table schedule : List ℕ) (r : Stepped) → Loads m table schedule r → fit m ≡ true → fit r.machine ≡ true
  pub accepted : (table schedule : List ℕ) (r : Stepped) → Loads m table schedule r → (told r.answer).number ≡ all_done → fit r.machine ≡ true

-- An instance that a task has of an access that it has: its use is inside the list of uses, and leads to a word of the block.
abbrev pub UsesInside : (kind : ℕ) → List ℕ → Type 0
UsesInside kind n =
    (t i s : ℕ) → t < most_tasks → s < most_signals → lacks n kind t s ≡ false → i < at n (counts + t)
    → (at n (cell kind t s) + i < most_uses) × (use_of n kind t i s < words)

-- So nothing in a fit state leads outside it.
pub record LeadsInside (m : Machine) : Type 0 where
  pub reading : UsesInside reads m.numbers
  pub writing : UsesInside writes m.numbers
  pub elements : (s : ℕ) → s < most_signals → at m.numbers (carried + s) < words
  pub published : (s : ℕ) → s < most_signals → at m.numbers (held + s) < words

-- Every refusal leaves the state as it was, and a refused read returns word 0.
pub record RefusedLeaves (m : Machine) : Type 0 where
  pub step : ((step_of m).answer ≡ Ok 0 → ⊥) → (step_of m).machine ≡ m
  pub read : (task signal : ℕ) → ((read_of m task signal).answer ≡ Ok 0 → ⊥) → (read_of m task signal).word ≡ 0
  pub write : (task signal word : ℕ) → ((write_of m task signal word).answer ≡ Ok 0 → ⊥) → (write_of m task signal word).machine ≡ m
