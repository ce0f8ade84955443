use mathlib.Core.Path.{◌≡◌}
use lib.ListN.{length}
use Rattle.form.specs.Records.{parts_in}
use Rattle.form.specs.Form.{walked}
use Rattle.schedule.specs.Writing.{put, uses_below}
use Rattle.schedule.proofs.put_signals.Given as goal

abbrev pub invariant-loop-s : goal.invariant-loop-s
invariant-loop-s l = (l.used ≡ uses_below l.users.grid.now l.users.instances l.users.tasks l.s) × (length l.out ≡ length l.initial.out)
    × (record { out = l.out; used = l.used } ≡ walked (put l.counts l.uses) (parts_in l.users.grid.now l.users.instances l.users.tasks l.s) (record { out = l.initial.out; used = 0 }))
