-- `lengths::signal_length` meets its contract.
use Rattle.form.specs.Records.{signal_bytes}
use Rattle.form.proofs.lengths.signal_length.Goals as goal

pub returns-clause-is : goal.returns-clause-is
unfolding signal_bytes
returns-clause-is c = rw (c.side_length-writers.ensures.is, c.side_length-readers.ensures.is)
