-- A section keeps no more records than a table may hold.
use native.Mathlib.Omega.{arith}
use Prim.Native.Nat.{ℕ, ◌+◌, ◌≤◌}
use mathlib.Core.List.{List}
use Rattle.rules.specs.Words.{when}
use Rattle.rules.specs.Table.{most_tasks, most_signals, most_accesses}
use Rattle.rules.specs.Records.{End, task_at, signal_at, access_at}
use Rattle.rules.specs.Reading.{no_tasks, no_signals, no_accesses, put_task, put_signal, put_access, tasks_in, signals_in, accesses_in}
use Rattle.rules.specs.declared.Tasks.{Tasks}
use Rattle.rules.specs.declared.Signals.{Signals}
use Rattle.rules.specs.declared.Accesses.{Accesses}
use Rattle.sections.proofs.Sectioned.{kept}

pub tasks_few : (bytes : List ℕ) → (tasks_in bytes).read.count ≤ most_tasks
unfolding tasks_in task_at when
tasks_few bytes = kept (λ (b : Tasks). b.count ≤ most_tasks) (λ b. task_at bytes b.count) put_task
    (λ b p _. grind arith) (most_tasks + 1) no_tasks 0 (omega arith)

pub signals_few : (bytes : List ℕ) (e : End) → (signals_in bytes e).read.count ≤ most_signals
unfolding signals_in signal_at when
signals_few bytes (End.at p) = kept (λ (b : Signals). b.count ≤ most_signals) (λ b. signal_at bytes b.count) put_signal
    (λ b q _. grind arith) (most_signals + 1) no_signals p (omega arith)
signals_few bytes (End.refused t) = omega arith

pub accesses_few : (bytes : List ℕ) (tasks signals : ℕ) (e : End) → (accesses_in bytes tasks signals e).read.count ≤ most_accesses
unfolding accesses_in access_at when
accesses_few bytes tasks signals (End.at p) = kept (λ (b : Accesses). b.count ≤ most_accesses) (λ b. access_at bytes tasks signals b.count b.last) put_access
    (λ b q _. grind arith) (most_accesses + 1) no_accesses p (omega arith)
accesses_few bytes tasks signals (End.refused t) = omega arith
