-- `sweep::signal_passes` meets its contract. The loop's invariant: what is left of the pass gives what the whole gives.
use mathlib.Core.Path.{ap, ◌∙◌}
use mathlib.Core.Logic.{inl, inr}
use Rattle.sweep.specs.Pass.{pass_of}
use Rattle.sweep.proofs.Inspected.{handles, is_event, pass_starts, pass_next}
use Rattle.sweep.proofs.signal_passes.Goals as goal
use Rattle.sweep.proofs.signal_passes.Goals.{then-acts-event, else-acts-event}

pub loop-event-init : goal.loop-event-init
loop-event-init c = (c.requires, c.acts_of-acts.ensures, pass_starts _ _ _ _ _ c.requires c.first-swept.result c.first-swept.ensures)

pub handle-requires : goal.handle-requires
handle-requires c = let l = c.loop-event.invariant in
    handles _ _ _ _ _ l.0 _ (is_event _ _ _ _ _ l.0 _ c.loop-event-test.true)

pub loop-event-preserved : goal.loop-event-preserved
loop-event-preserved c = let l = c.loop-event.invariant in (
  l.0,
  l.1,
  pass_next _ _ _ _ _ l.0 _ _ _ _ c.loop-event-test.true l.1 l.2
      (elim c.if-acts-event.branch [ then-acts-event w ↦ inl (ap pass_of w.swept-is ∙ w.handle.ensures) | else-acts-event w ↦ inr (w.if-acts-event.false, w.swept-is) ]),
)
