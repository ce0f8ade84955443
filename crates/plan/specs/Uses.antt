-- The uses of a table numbered, and planned signal by signal. Assumes nothing.
use Rattle.std.specs.Prelude.{ℕ, zero, suc, ◌+◌, ◌<◌, List, ◌≡◌, get_or, set}
use Rattle.rules.specs.Windows.{Table}
use Rattle.rules.specs.Reading.{Grid}
use Rattle.theory.specs.Chosen.{chosen}
use Rattle.rules.specs.declared.Side.{Side}
use Rattle.form.specs.Records.{users_below}
use Rattle.elements.specs.declared.pass.Numbers.{Numbers}

module _ (grid : Grid) (instances : List ℕ) where
  -- the uses of signal s on both sides
  abbrev pub users_in : ℕ → ℕ → ℕ
  users_in s tasks = users_below grid instances Side.Writers s tasks + users_below grid instances Side.Readers s tasks

  -- the numbers of the tasks' first uses, if those of the signal begin with this one
  pub record Numbered (s first tasks : ℕ) (numbers : Numbers) : Type 0 where
    pub writers : (k : ℕ) → k < tasks → get_or numbers.writers k 0 ≡ first + users_below grid instances Side.Writers s k
    pub readers : (k : ℕ) → k < tasks → get_or numbers.readers k 0 ≡ first + users_below grid instances Side.Writers s tasks + users_below grid instances Side.Readers s k

-- the elements of the uses, and the counts, once the signals below n are planned
unfoldable pub uses_planned : Table → List ℕ → ℕ → List ℕ
uses_planned tab uses zero = uses
uses_planned tab uses (suc n) = (chosen tab n (uses_planned tab uses n)).uses

unfoldable pub counts_planned : Table → List ℕ → List ℕ → ℕ → List ℕ
counts_planned tab counts uses zero = counts
counts_planned tab counts uses (suc n) = set (counts_planned tab counts uses n) n (chosen tab n (uses_planned tab uses n)).count
