-- The contract of `read_grid`. Assumes nothing.
use Rattle.std.specs.Prelude.{ℕ, ◌≡◌, List}
use Rattle.rules.specs.Reading.{Grid, grid_in}

-- g is what `read_grid` gives for these bytes: the accesses up to their end, or to the first that is refused
abbrev pub GridGives : List ℕ → Grid → Type 0
GridGives bytes g = g ≡ grid_in bytes
