use mathlib.Core.Path.{◌≡◌}
use mathlib.Core.List.{List}
use Prim.Native.Nat.{ℕ, ◌+◌, ◌*◌}
use lib.ListN.{length}
use Rattle.rules.specs.declared.Side.{Side}
use Rattle.form.specs.Records.{mark_of, instance_parts}
use Rattle.form.specs.Form.{walked}
use Rattle.schedule.specs.Writing.{put}
use Rattle.schedule.proofs.put_instances.Given as goal

abbrev pub invariant-loop-i : goal.invariant-loop-i
invariant-loop-i l = (l.start ≡ 4 * (l.signal + 1)) × (length l.out ≡ length l.initial.out)
    × ((counts : List ℕ) (side : Side) → l.mark ≡ mark_of side → record { out = l.out; used = l.first + l.i } ≡ walked (put counts l.uses) (instance_parts side l.signal l.task l.i) (record { out = l.initial.out; used = l.first }))
