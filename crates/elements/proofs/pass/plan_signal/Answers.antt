-- `pass::plan_signal` meets its contract. The loop's invariant: what is known is what the pass knows after so many events. Assumes nothing.
use mathlib.Core.Path.{◌≡◌, ap, ◌∙◌}
use native.Mathlib.Omega.{arith}
use lib.ListN.{length}
use Rattle.theory.specs.Chosen.{Choice}
use Rattle.elements.specs.Steps.{choice_of}
use Rattle.elements.proofs.Signal.{after_none, after_all, counted, turns, after_turn}
use Rattle.elements.proofs.pass.plan_signal.Goals as goal

pub loop-event-init : goal.loop-event-init
loop-event-init c = let a = c.args in c.new-elements.ensures a.uses.now ∙ after_none a.accepted.now a.signal a.uses.now

pub turn-requires : goal.turn-requires
turn-requires c = let a = c.args in
    turns a.accepted.now a.signal a.events.now a.numbers c.requires c.loop-event.event-index (omega arith) c.task_in-k.ensures c.reads.ensures c.writes.ensures c.then_some-read.ensures c.then_some-write.ensures

pub loop-event-preserved : goal.loop-event-preserved
loop-event-preserved c = let a = c.args in
    after_turn a.accepted.now a.signal a.events.now a.numbers c.requires c.loop-event.event-index (omega arith) c.task_in-k.ensures a.uses.now c.reads.ensures c.writes.ensures c.then_some-read.ensures c.then_some-write.ensures c.loop-event.invariant c.turn.ensures

pub returns-clause-chosen : goal.returns-clause-chosen
returns-clause-chosen c = let a = c.args in
    let l = c.loop-event in
    let all : l.event-index ≡ length a.events.now = omega arith in
    let same = after_all a.accepted.now a.signal a.uses.now l.event-index (choice_of l.elements l.uses) (all ∙ counted a.accepted.now a.signal a.events.now a.numbers c.requires) l.invariant in
    (ap (λ (x : Choice). x.count) same, ap (λ (x : Choice). x.uses) same)
