-- Each task that was read has a window that fits its period, also where the table is refused later.
use Prim.Native.Nat.{ℕ, ◌+◌, ◌<◌}
use mathlib.Core.Path.{◌≡◌, refl, ap, ◌∙◌}
use mathlib.Core.Bool.{Bool, true, false}
use mathlib.Core.List.{List}
use native.Mathlib.Omega.{arith}
use lib.Dec.{eqb}
use lib.ListN.{length, length-set}
use lib.Seq.{get_or-set_same, get_or-set_other}
use borrow.Author.Tests.{eqb-true, eqb-false}
use Rattle.rules.specs.Words.{when}
use Rattle.rules.specs.Table.{most_tasks, windowed}
use Rattle.rules.specs.Records.{task_at}
use Rattle.rules.specs.Reading.{Section, no_task, no_tasks, put_task, task_of, tasks_in}
use Rattle.rules.specs.declared.Task.{Task}
use Rattle.rules.specs.declared.Tasks.{Tasks}
use Rattle.sections.proofs.Sectioned.{Only, only, kept}
use Rattle.sections.specs.Said.{section_said}
use Rattle.sections.specs.declared.section.SectionRead.{SectionRead}

abbrev pub fits : Task → Bool
fits t = windowed t.period t.start t.end

-- the window of each task that stands in the list fits its period
abbrev pub Windowed : Tasks → Type 0
Windowed b = (k : ℕ) → k < b.count → fits (task_of b k) ≡ true

-- what a task that is taken has passed
pub record TaskTaken (count : ℕ) (t : Task) : Type 0 where
  pub few : count < most_tasks
  pub window : windowed t.period t.start t.end ≡ true

pub only_windowed : (bytes : List ℕ) (count p : ℕ) → Only (TaskTaken count) (task_at bytes count p)
unfolding task_at when
only_windowed bytes count p = grind arith

record Fitting (b : Tasks) : Type 0 where
  pub room : length b.list ≡ most_tasks
  pub windows : Windowed b

-- one task more, whose window fits
put : (b : Tasks) (t : Task) → TaskTaken b.count t → Fitting b → Fitting (put_task b t)
put b t taken h = record {
  room = length-set b.list b.count t ∙ h.room;
  windows = λ k l. go k l (eqb k b.count) refl;
}
  where
    go : (k : ℕ) → k < b.count + 1 → (same : Bool) → eqb k b.count ≡ same → fits (task_of (put_task b t) k) ≡ true
    go k l true e =
        ap (λ (j : ℕ). fits (task_of (put_task b t) j)) (eqb-true k b.count e)
        ∙ ap fits (get_or-set_same b.list b.count t no_task (omega (arith, taken.few, h.room)))
        ∙ taken.window
    go k l false e =
        let other = eqb-false k b.count e in
        ap fits (get_or-set_other b.list b.count k t no_task other) ∙ h.windows k (omega (arith, other))

pub tasks_windowed : (bytes : List ℕ) → Windowed (tasks_in bytes).read
unfolding tasks_in
tasks_windowed bytes =
    (kept Fitting (λ b. task_at bytes b.count) put_task (λ b p h. only (λ t taken. put b t taken h) (task_at bytes b.count p) (only_windowed bytes b.count p))
    (most_tasks + 1) no_tasks 0 (record { room = refl; windows = λ k l. absurd (omega (arith, l)) })
    ).windows

-- ---- what a caller of `read_tasks` learns from its contract

pub read_windowed : (bytes : List ℕ) (r : SectionRead Tasks) → section_said r ≡ tasks_in bytes → Windowed r.read
read_windowed bytes r e = rw (ap (λ (s : Section Tasks). s.read) e) (tasks_windowed bytes)
