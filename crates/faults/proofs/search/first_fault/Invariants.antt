use mathlib.Core.Path.{◌≡◌}
use Rattle.std.specs.Prelude.{None}
use Rattle.rules.specs.Words.{total, gather}
use Rattle.rules.specs.Bytes.{size_of, schedule_in}
use Rattle.accept.specs.Accepts.{its_table}
use Rattle.faults.specs.Faults.{side_of, wrong_of, first_in}
use Rattle.faults.proofs.search.first_fault.Given as goal

abbrev pub invariant-loop-signal : goal.invariant-loop-signal
invariant-loop-signal l = let a = l.accepted in
    (l.next ≡ total (size_of (its_table a)) l.signal)
    × (None ≡ first_in (its_table a) (wrong_of (its_table a) (schedule_in (its_table a) l.schedule) l.side) (gather l.signal (side_of (its_table a) a.grid l.side a.tasks.count)))
