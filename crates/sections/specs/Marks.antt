-- The accesses read into the grid, as a kind of record. Assumes nothing.
use Rattle.std.specs.Prelude.{ℕ, ◌≤◌}
use Rattle.rules.specs.Table.{most_tasks, most_signals}
use Rattle.rules.specs.Reading.{put_cell, put_access}
use Rattle.rules.specs.declared.Access.{Access}
use Rattle.sections.specs.Kinds.{accesses_left}
use Rattle.sections.specs.declared.marks.Marked.{Marked}
use Rattle.sections.specs.declared.marks.Marks.{Marks}

-- each access that names one of the tasks and signals has a cell
abbrev pub InGrid : Marks → Type 0
InGrid m = (m.accesses.tasks ≤ most_tasks) × (m.accesses.signals ≤ most_signals)

abbrev pub mark : Marked → Access → Marked
mark b x = record { grid = put_cell b.grid x; accesses = put_access b.accesses x }

abbrev pub marks_left : Marked → ℕ
marks_left b = accesses_left b.accesses
