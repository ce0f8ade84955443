-- `grid::read_grid` meets its contract: the tasks and the signals are the definition's, and so is where the accesses start.
use Prim.Native.Nat.{ℕ, suc}
use mathlib.Core.List.{List}
use mathlib.Core.Path.{◌≡◌, refl, ap, ◌∙◌}
use Rattle.rules.specs.Table.{most_accesses}
use Rattle.rules.specs.Records.{End, access_at}
use Rattle.rules.specs.Reading.{Section, no_grid, no_accesses, put_marked, section, from, tasks_in, signals_in, grid_from, grid_in}
use Rattle.rules.specs.declared.Tasks.{Tasks}
use Rattle.rules.specs.declared.Signals.{Signals}
use Rattle.rules.specs.declared.Accesses.{Accesses}
use Rattle.records.specs.Said.{end_said}
use Rattle.sections.proofs.Sectioned.{alike}
use Rattle.sections.specs.Marks.{mark, marks_left}
use Rattle.sections.specs.declared.marks.Marked.{Marked}
use Rattle.sections.proofs.grid.read_grid.Goals as goal

-- before the first access
abbrev started : Accesses → Marked
started first = record { grid = no_grid; accesses = first }

abbrev from_start : List ℕ → ℕ → ℕ → Accesses → End → Section Marked
from_start bytes tasks signals first =
    from (section (λ b. access_at bytes tasks signals b.accesses.count b.accesses.last) mark (suc (marks_left (started first))) (started first)) (started first)

-- the accesses marked in the grid are the definition's
marks : (bytes : List ℕ) (tasks signals : ℕ) (e : End) → (from_start bytes tasks signals no_accesses e).read.grid ≡ grid_from bytes tasks signals e
unfolding grid_from
marks bytes tasks signals (End.at p) =
    ap (λ m. m.grid) (alike (λ (b : Marked). record { grid = b.grid; accesses = b.accesses }) (λ m. access_at bytes tasks signals m.accesses.count m.accesses.last) mark put_marked (λ b a. refl)
    (suc most_accesses) (started no_accesses) p)
marks bytes tasks signals (End.refused t) = refl

whole : (bytes : List ℕ) (t : Section Tasks) (s : Section Signals) → t ≡ tasks_in bytes → s ≡ signals_in bytes t.end →
    grid_from bytes t.read.count s.read.count s.end ≡ grid_in bytes
unfolding grid_in
whole bytes t s ht hs = cc

pub returns : goal.returns
returns c =
    let t = c.read_tasks-tasks in
    let s = c.read_signals-signals in
    ap (λ (x : Section Marked). x.read.grid) (c.read_after.ensures ∙ ap (λ (x : Accesses). from_start c.args.bytes.now t.result.read.count s.result.read.count x (end_said s.result.end)) c.no_accesses.ensures)
    ∙ marks c.args.bytes.now t.result.read.count s.result.read.count (end_said s.result.end)
    ∙ whole _ _ _ t.ensures.is s.ensures.is
