-- `view::View::bound_element` meets its contract: the carried value's element, or that of the WI of the value found.
use mathlib.Core.Path.{◌∙◌}
use native.Mathlib.Omega.{arith}
use Rattle.rules.specs.declared.Side.{Side}
use Rattle.faults.proofs.Viewed.{place_is, written_is, bound_carried, bound_written}
use Rattle.faults.proofs.view.View.bound_element.Goals as goal

pub returns-then-task-eq-CARRIED : goal.returns-then-task-eq-CARRIED
returns-then-task-eq-CARRIED c = bound_carried c.args.self.now _ c.requires c.binding_at-value.ensures c.if-task-eq-CARRIED.true

pub offset_bounds-self-task : goal.offset_bounds-self-task
offset_bounds-self-task c = let v = c.args.self.now in
    let w = bound_written v _ c.requires c.binding_at-value.ensures c.if-task-eq-CARRIED.false in
    omega (arith, w.0.0, v.accepted.now.fits.few_tasks)

pub bounds-self-task : goal.bounds-self-task
bounds-self-task c = let v = c.args.self.now in
    let w = bound_written v _ c.requires c.binding_at-value.ensures c.if-task-eq-CARRIED.false in
    omega (arith, w.0.0, v.accepted.now.fits.few_tasks)

pub element_at-requires : goal.element_at-requires
element_at-requires c = let v = c.args.self.now in
    let w = bound_written v _ c.requires c.binding_at-value.ensures c.if-task-eq-CARRIED.false in
    let at = place_is v Side.Writers _ _ w.0 in
    omega (arith, at.0, at.1)

pub returns : goal.returns
returns c = let v = c.args.self.now in
    let w = bound_written v _ c.requires c.binding_at-value.ensures c.if-task-eq-CARRIED.false in
    c.element_at.ensures ∙ written_is v _ _ w.0 ∙ w.1
