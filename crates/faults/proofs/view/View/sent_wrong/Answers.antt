-- `view::View::sent_wrong` meets its contract: the reader's element against that of the value it is bound to.
use mathlib.Core.Path.{ap₂, ◌∙◌}
use mathlib.Core.Bool.{not}
use native.Mathlib.Omega.{arith}
use lib.Dec.{eqb}
use Rattle.rules.specs.declared.Side.{Side}
use Rattle.faults.proofs.Viewed.{place_is, read_is}
use Rattle.faults.proofs.view.View.sent_wrong.Goals as goal

pub element_at-requires : goal.element_at-requires
element_at-requires c = let at = place_is c.args.self.now Side.Readers _ _ c.requires in
    omega (arith, at.0, at.1)

pub returns : goal.returns
returns c = ap₂ (λ a b. not (eqb a b)) (c.element_at.ensures ∙ read_is c.args.self.now _ _ c.requires) c.bound_element-bound.ensures
