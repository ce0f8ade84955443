-- The contract of `check_schedule`. Assumes nothing.
use Rattle.std.specs.Prelude.{ℕ, ◌≡◌, List, Result}
use Rattle.rules.specs.Numbers.{told}
use Rattle.rules.specs.Loading.{load_says}
use Rattle.rules.specs.declared.Refusal.{Refusal}

-- r is what `check_schedule` answers for these bytes: 1 to 11 for the table, then 15 to 22
abbrev pub CheckGives : (table schedule : List ℕ) → Result ℕ Refusal → Type 0
CheckGives table schedule r = told r ≡ load_says table schedule
