-- `sections::read_accesses` keeps no more than a table may hold.
use native.Mathlib.Omega.{arith}
use mathlib.Core.Path.{◌≡◌, ap}
use Rattle.rules.specs.Reading.{Section, accesses_in}
use Rattle.rules.specs.declared.Accesses.{Accesses}
use Rattle.records.specs.Said.{end_said}
use Rattle.sections.specs.Said.{section_said}
use Rattle.sections.proofs.Few.{accesses_few}
use Rattle.sections.proofs.read_accesses.Goals as goal

pub returns-clause-few : goal.returns-clause-few
unfolding accesses_in
returns-clause-few c =
    let is : section_said c.read_after.result ≡ accesses_in c.args.bytes.now c.args.tasks c.args.signals (end_said c.args.from) = grind arith in
    rw (ap (λ (s : Section Accesses). s.read.count) is) (accesses_few c.args.bytes.now c.args.tasks c.args.signals (end_said c.args.from))
