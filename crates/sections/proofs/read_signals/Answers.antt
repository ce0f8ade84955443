-- `sections::read_signals` keeps no more than a table may hold.
use native.Mathlib.Omega.{arith}
use mathlib.Core.Path.{◌≡◌, ap}
use Rattle.rules.specs.Reading.{Section, signals_in}
use Rattle.rules.specs.declared.Signals.{Signals}
use Rattle.records.specs.Said.{end_said}
use Rattle.sections.specs.Said.{section_said}
use Rattle.sections.proofs.Few.{signals_few}
use Rattle.sections.proofs.read_signals.Goals as goal

pub returns-clause-few : goal.returns-clause-few
unfolding signals_in
returns-clause-few c =
    let is : section_said c.read_after.result ≡ signals_in c.args.bytes.now (end_said c.args.from) = grind arith in
    rw (ap (λ (s : Section Signals). s.read.count) is) (signals_few c.args.bytes.now (end_said c.args.from))
