-- The contract of `plan`. Assumes nothing.
use Rattle.std.specs.Prelude.{ℕ, ◌≡◌, List, length, Result}
use Rattle.rules.specs.Numbers.{told}
use Rattle.rules.specs.declared.Refusal.{Refusal}
use Rattle.plan.specs.Planning.{plan_told, plan_out}

-- r is what `plan` answers for these table bytes and this lent buffer, and `after` what it leaves in the buffer
abbrev pub PlanGives : (table out : List ℕ) → Result ℕ Refusal → (after : List ℕ) → Type 0
PlanGives table out r after = (told r ≡ plan_told table (length out)) × (after ≡ plan_out table out)
