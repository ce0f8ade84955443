-- What one task adds, by its last closing or opening.
use Rattle.std.specs.Prelude.{Some, None}
use mathlib.Core.Path.{◌≡◌, ap, subst, ◌∙◌}
use mathlib.Core.List.{[], ◌∷◌}
use Prim.Native.Nat.{ℕ, ◌+◌, ◌*◌, ◌≤◌, ◌<◌, max}
use borrow.Author.Tests.{lt-ltb, le-ltb}
use Rattle.rules.specs.Words.{when}
use Rattle.rules.specs.Windows.{Table}
use Rattle.rules.specs.Reading.{table_of, no_signals, no_grid}
use Rattle.rules.specs.declared.Task.{Task}
use Rattle.windows.specs.Windowed.{Windowed}
use Rattle.windows.specs.Forms.{last_closed, last_opened, IsLastClosed, IsLastOpened}
use Rattle.windows.proofs.Windows.{window, last_closed_lem, last_opened_lem}
use Rattle.signals.specs.declared.Publication.{Publication}
use Rattle.signals.specs.Forms.{later_if, later_of, reach_if, reach_of}

-- the table of this one task
alone : Task → Table
alone task = table_of (record { list = task ∷ []; count = 1 }) no_signals no_grid

module _ (task : Task) (k t : ℕ) (found : Publication) where
  pub later_none : last_closed task t ≡ None → later_of task k t found ≡ found
  unfolding later_of
  later_none e = ap (later_if task k found) e

  pub later_new : (i : ℕ) → last_closed task t ≡ Some i → found.tick < i * task.period + task.end
      → later_of task k t found ≡ record { tick = i * task.period + task.end; task = k; instance = i }
  unfolding later_of when
  later_new i e l = ap (later_if task k found) e ∙ simp (lt-ltb found.tick (i * task.period + task.end) l)

  pub later_old : (i : ℕ) → last_closed task t ≡ Some i → i * task.period + task.end ≤ found.tick → later_of task k t found ≡ found
  unfolding later_of when
  later_old i e l = ap (later_if task k found) e ∙ simp (le-ltb found.tick (i * task.period + task.end) l)

module _ (task : Task) (from before reached : ℕ) where
  pub reach_none : last_opened task before ≡ None → reach_of task from before reached ≡ reached
  unfolding reach_of
  reach_none e = ap (reach_if task from reached) e

  pub reach_early : (i : ℕ) → last_opened task before ≡ Some i → i * task.period + task.start < from → reach_of task from before reached ≡ reached
  unfolding reach_of when
  reach_early i e l = ap (reach_if task from reached) e ∙ simp (lt-ltb (i * task.period + task.start) from l)

  pub reach_at : (i : ℕ) → last_opened task before ≡ Some i → from ≤ i * task.period + task.start
      → reach_of task from before reached ≡ max reached (i * task.period + task.end)
  unfolding reach_of when
  reach_at i e l = ap (reach_if task from reached) e ∙ simp (le-ltb (i * task.period + task.start) from l)

module _ (task : Task) (t i : ℕ) (w : Windowed task) where
  pub closed_by : last_closed task t ≡ Some i → i * task.period + task.end ≤ t
  unfolding alone
  closed_by e = (subst (IsLastClosed (alone task) 0 t) e (last_closed_lem (alone task) 0 t w)).0

  pub opened_before : last_opened task t ≡ Some i → i * task.period + task.start < t
  unfolding alone
  opened_before e = (subst (IsLastOpened (alone task) 0 t) e (last_opened_lem (alone task) 0 t w)).0

-- what the check needs of them
pub ruleset laters = (later_none, later_new, later_old, closed_by)

pub ruleset reaches = (reach_none, reach_early, reach_at, opened_before, window)
