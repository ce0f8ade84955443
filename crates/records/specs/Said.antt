-- What each case of the reader's answers says, in the definitions' terms: a record and the next place, another mark, or a number and its place.
-- Assumes nothing.
use Rattle.std.specs.Prelude.{Option, Some, None, Result, Ok, Err}
use Rattle.rules.specs.Numbers.{told}
use Rattle.rules.specs.Records.{Step, End}
use Rattle.rules.specs.declared.Refusal.{Refusal}
use Rattle.records.specs.declared.Cursor.{Cursor}

-- of a record of any kind
abbrev pub step_said : {A : Type 0} → Result (Option (A × Cursor)) Refusal → Step A
step_said (Ok (Some x)) = Step.taken x.0 x.1.at
step_said (Ok None) = Step.other
step_said (Err r) = Step.refused (told (Err r))

-- of a section's end, or the table's
abbrev pub end_said : Result Cursor Refusal → End
end_said (Ok c) = End.at c.at
end_said (Err r) = End.refused (told (Err r))
