-- What a record that is taken has passed: the bounds on the numbers of records, tasks and signals, and a task's window.
use Prim.Native.Nat.{ℕ, ◌<◌}
use mathlib.Core.Path.{◌≡◌, subst}
use mathlib.Core.List.{List}
use native.Mathlib.Omega.{arith}
use Rattle.rules.specs.Words.{when}
use Rattle.rules.specs.Table.{most_signals, most_accesses}
use Rattle.rules.specs.Records.{Step, task_at, signal_at, access_at}
use Rattle.rules.specs.declared.Task.{Task}
use Rattle.rules.specs.declared.Access.{Access}
use Rattle.sections.proofs.Sectioned.{Only}
use Rattle.sections.proofs.Windowed.{TaskTaken, only_windowed}

pub task_taken : (bytes : List ℕ) (count p : ℕ) {t : Task} {q : ℕ} → task_at bytes count p ≡ Step.taken t q → TaskTaken count t
task_taken bytes count p e = subst (Only (TaskTaken count)) e (only_windowed bytes count p)

only_few : (bytes : List ℕ) (count p : ℕ) → Only (λ (v : ℕ). count < most_signals) (signal_at bytes count p)
unfolding signal_at when
only_few bytes count p = grind arith

pub signal_few : (bytes : List ℕ) (count p : ℕ) {v q : ℕ} → signal_at bytes count p ≡ Step.taken v q → count < most_signals
signal_few bytes count p e = subst (Only (λ (v : ℕ). count < most_signals)) e (only_few bytes count p)

pub record AccessTaken (tasks signals count : ℕ) (x : Access) : Type 0 where
  pub few : count < most_accesses
  pub task : x.task < tasks
  pub signal : x.signal < signals

only_known : (bytes : List ℕ) (tasks signals count : ℕ) (last : Access) (p : ℕ) → Only (AccessTaken tasks signals count) (access_at bytes tasks signals count last p)
unfolding access_at when
only_known bytes tasks signals count last p = grind arith

pub access_taken : (bytes : List ℕ) (tasks signals count : ℕ) (last : Access) (p : ℕ) {x : Access} {q : ℕ} →
    access_at bytes tasks signals count last p ≡ Step.taken x q → AccessTaken tasks signals count x
access_taken bytes tasks signals count last p e = subst (Only (AccessTaken tasks signals count)) e (only_known bytes tasks signals count last p)
