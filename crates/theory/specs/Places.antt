-- What is said of places: the size of a memory, which places are inside it, which have nothing in common. Assumes nothing.
use Rattle.std.specs.Prelude.{◌<◌, ◌≡◌, length}
use Rattle.rules.specs.Windows.{Table}
use Rattle.rules.specs.Schedule.{room}
use Rattle.rules.specs.Stores.{Memory, Place, in_words, nowhere}

module _ (tab : Table) where
  -- the memory has as many words as loading gives it
  abbrev pub Sized : Memory → Type 0
  Sized m = length m.block ≡ room tab

  -- the place is inside it
  abbrev pub Inside : Place → Type 0
  Inside (in_words a) = a < room tab
  Inside nowhere = ⊥

-- the two places have nothing in common
abbrev pub Apart : Place → Place → Type 0
Apart (in_words a) (in_words b) = a ≡ b → ⊥
Apart (in_words a) nowhere = Unit {0}
Apart nowhere q = Unit {0}
