use mathlib.Core.Path.{◌≡◌}
use Prim.Native.Nat.{◌*◌, ◌≤◌}
use Rattle.rules.specs.Words.{total}
use Rattle.form.specs.Records.{longest_signal, signal_bytes}
use Rattle.form.proofs.lengths.signals_length.Given as goal

abbrev pub invariant-loop-s : goal.invariant-loop-s
invariant-loop-s l = (l.bytes ≡ total (signal_bytes l.users.grid.now l.users.instances l.users.tasks) l.s) × (l.bytes ≤ l.s * longest_signal)
