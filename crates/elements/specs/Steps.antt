-- The code's values as the state of the pass. Assumes nothing.
use Rattle.std.specs.Prelude.{ℕ, ◌-◌, List, take}
use Rattle.rules.specs.Table.{most_elements}
use Rattle.theory.specs.Untils.{first_free}
use Rattle.theory.specs.Chosen.{Choice}
use Rattle.elements.specs.declared.state.Elements.{Elements}

-- the lowest that is not held past t
abbrev pub free_in : List ℕ → ℕ → ℕ
free_in held t = first_free (take (most_elements - 1) held) t

-- with the elements of the uses so far
abbrev pub choice_of : Elements → List ℕ → Choice
choice_of e uses = record { held = e.standing.held; own = e.own; current = e.standing.current; reach = e.standing.reach; count = e.count; uses = uses }
