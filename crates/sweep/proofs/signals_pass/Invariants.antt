use mathlib.Core.Bool.{true}
use mathlib.Core.Path.{◌≡◌}
use Rattle.rules.specs.Words.{total}
use Rattle.rules.specs.Bytes.{size_of}
use Rattle.accept.specs.Accepts.{its_table}
use Rattle.sweep.specs.Pass.{all_swept}
use Rattle.sweep.proofs.signals_pass.Given as goal

abbrev pub invariant-loop-s : goal.invariant-loop-s
invariant-loop-s l = (l.next ≡ total (size_of (its_table l.accepted)) l.s) × (all_swept (its_table l.accepted) l.schedule l.s ≡ true)
