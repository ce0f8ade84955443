-- The two sides of a signal: the part of the numbers that has each one's cells, and the right of the grid that permits it. Assumes nothing.
use Rattle.std.specs.Prelude.{ℕ}
use Rattle.rules.specs.declared.Side.{Side}
use Rattle.state.specs.Parts.{reads, writes}

abbrev pub part_of : Side → ℕ
part_of Side.Readers = reads
part_of Side.Writers = writes

-- 1 to read, 2 to write
abbrev pub right_of : Side → ℕ
right_of Side.Readers = 1
right_of Side.Writers = 2
