-- The kinds of record that a section may hold: a record that was given, and how many more fit. Assumes nothing.
use Rattle.std.specs.Prelude.{ℕ, ◌≡◌, ◌-◌, List}
use Rattle.rules.specs.Records.{Step}
use Rattle.rules.specs.Table.{most_tasks, most_signals, most_accesses}
use Rattle.rules.specs.declared.Tasks.{Tasks}
use Rattle.rules.specs.declared.Signals.{Signals}
use Rattle.rules.specs.declared.Accesses.{Accesses}

-- a place of a table gives this record
pub record Given {A : Type 0} (step : List ℕ → ℕ → Step A) (a : A) : Type 0 where
  pub bytes : List ℕ
  pub place : ℕ
  pub next : ℕ
  pub is : step bytes place ≡ Step.taken a next

-- of a kind that any caller may have
abbrev pub Free : {A : Type 0} → A → Type 0
Free kind = Unit {0}

abbrev pub tasks_left : Tasks → ℕ
tasks_left b = most_tasks - b.count

abbrev pub signals_left : Signals → ℕ
signals_left b = most_signals - b.count

abbrev pub accesses_left : Accesses → ℕ
accesses_left b = most_accesses - b.count
