-- Where a task finds a signal: at a position, or one of two refusals. Assumes nothing.
use Rattle.std.specs.Prelude.{Option, Some, None, Result, Ok, Err}
use Prim.Native.Nat.{ℕ}
use mathlib.Core.List.{List}
use lib.Dec.{leb}
use Rattle.rules.specs.Table.{most_tasks, most_signals}
use Rattle.rules.specs.declared.Refusal.{Refusal}
use Rattle.fields.proofs.Whens.{over}
use Rattle.state.specs.Rows.{inside_of, lacks, use_of, where_open, place_of}

-- what holds of every position and of both refusals
pub place_cases : (P : Result ℕ Refusal → Type 0) → ((p : ℕ) → P (Ok p)) → P (Err Refusal.NoAccess) → P (Err Refusal.Outside)
    → (n : List ℕ) (kind t s : ℕ) → P (place_of n kind t s)
unfolding place_of
place_cases P found no_access outside n kind t s =
    over P (leb most_tasks t) _ _ no_access (λ a. over P (leb most_signals s) _ _ no_access (λ b. over P (lacks n kind t s) _ _ no_access (λ c. opened (inside_of n t))))
  where
    opened : (o : Option ℕ) → P (where_open n kind t s o)
    opened (Some i) = found (use_of n kind t i s)
    opened None = outside
