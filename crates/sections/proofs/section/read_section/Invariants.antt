use Prim.Native.Nat.{suc}
use mathlib.Core.Path.{◌≡◌}
use Rattle.rules.specs.Reading.{section}
use Rattle.sections.proofs.section.read_section.Given as goal

abbrev pub invariant-loop-given : goal.invariant-loop-given
invariant-loop-given g l =
    section (g.K.Kind.step l.kind l.bytes) g.K.Kind.put (suc (g.K.Kind.left l.read)) l.read l.place.at
    ≡ section (g.K.Kind.step l.kind l.bytes) g.K.Kind.put (suc (g.K.Kind.left l.initial.read)) l.initial.read l.initial.place.at

abbrev pub decreases-loop-given : goal.decreases-loop-given
decreases-loop-given g l = g.K.Kind.left l.read
