-- The live list, about `lives::live_list`: the lives of document 01 in plan order at the front of the lent list, or the first broken rule and nothing
-- changed. proofs/Lists.antt proves it. Assumes nothing.
use Rattle.std.specs.Prelude.{ℕ, ◌≡◌, List, ◌++◌, length, drop, Result}
use Rattle.rules.specs.Plan.{live_list}
use Rattle.rules.specs.Numbers.{tell, told, all_done}
use Rattle.rules.specs.Reading.{table_in, read_says}
use Rattle.rules.specs.declared.Refusal.{Refusal}
use Rattle.theory.specs.First.{FirstBrokenElse, BrokenLive, live_rule_told, live_rules}
use Rattle.lives.specs.declared.LiveValue.{LiveValue}
use Rattle.lives.specs.Lives.{live_values}
use Rattle.lives.specs.Gives.{ListGives}

pub record ListsRightly (table : List ℕ) (signal : ℕ) (list : List LiveValue) (r : Result ℕ Refusal) (after : List LiveValue) : Type 0 where
  -- A table that is refused is refused with its own number and place.
  pub table_refused : ((read_says table).number ≡ all_done → ⊥) → told r ≡ read_says table
  -- Of an accepted table: the first rule of 23, 12 and 14 that is broken gives number and place; where none is, the records are told.
  pub first_broken : (read_says table).number ≡ all_done
      → FirstBrokenElse (BrokenLive (table_in table) signal (length list)) (live_rule_told (table_in table) signal) (tell all_done (length (live_list (table_in table) signal))) live_rules (told r)
  -- Where it is done, the live list stands at the front, and records beyond stay.
  pub filled : (told r).number ≡ all_done → after ≡ live_values (table_in table) signal ++ drop (length (live_values (table_in table) signal)) list
  -- A refusal changes nothing.
  pub unchanged : ((told r).number ≡ all_done → ⊥) → after ≡ list
  -- No other answer, and no other contents of the list, meet the contract.
  pub one : (q : Result ℕ Refusal) (b : List LiveValue) → ListGives table signal list q b → (q ≡ r) × (b ≡ after)

-- So it is for any bytes, any signal number and any list.
abbrev pub AllListsRightly : Type 0
AllListsRightly = (table : List ℕ) (signal : ℕ) (list : List LiveValue) (r : Result ℕ Refusal) (after : List LiveValue) → ListGives table signal list r after → ListsRightly table signal list r after
