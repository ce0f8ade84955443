-- What an answer says determines it: two results that meet a contract are equal.
use Rattle.std.specs.Prelude.{ℕ, Option, Some, None, Result, Ok, Err}
use mathlib.Core.Path.{◌≡◌, refl, ap}
use Rattle.rules.specs.Records.{Step, End}
use Rattle.rules.specs.declared.Refusal.{Refusal}
use Rattle.fields.proofs.Told.{exact, untold, untold_told}
use Rattle.records.specs.Said.{step_said, end_said}
use Rattle.records.specs.declared.Cursor.{Cursor}

-- the refusal that an answer is, where it is one
abbrev refused : {A : Type 0} → Result ℕ Refusal → Result A Refusal
refused (Ok p) = Err Refusal.Unfit
refused (Err r) = Err r

-- the answer that a step comes from
abbrev unstep : {A : Type 0} → Step A → Result (Option (A × Cursor)) Refusal
unstep (Step.taken a p) = Ok (Some (a, record { at = p }))
unstep Step.other = Ok None
unstep (Step.refused t) = refused (untold t)

unstep_said : {A : Type 0} (r : Result (Option (A × Cursor)) Refusal) → unstep (step_said r) ≡ r
unstep_said (Ok (Some x)) = refl
unstep_said (Ok None) = refl
unstep_said (Err r) = ap refused (untold_told (Err r))

abbrev unend : End → Result Cursor Refusal
unend (End.at p) = Ok (record { at = p })
unend (End.refused t) = refused (untold t)

unend_said : (e : Result Cursor Refusal) → unend (end_said e) ≡ e
unend_said (Ok c) = refl
unend_said (Err r) = ap refused (untold_told (Err r))

pub step_exact : {A : Type 0} (a b : Result (Option (A × Cursor)) Refusal) → step_said a ≡ step_said b → a ≡ b
step_exact = exact step_said unstep unstep_said

pub end_exact : (a b : Result Cursor Refusal) → end_said a ≡ end_said b → a ≡ b
end_exact = exact end_said unend unend_said
