-- What `accept` gives: the table, or the first rule that it breaks.
use Rattle.fields.proofs.Told.{handed_on}
use Rattle.table.proofs.Exact.{refused_says}
use Rattle.accept.proofs.Read.{done, is_read, tasks_are, signals_are, fits, own}
use Rattle.accept.proofs.reading.accept.Goals as goal

pub returns-in_err-hyper : goal.returns-in_err-hyper
returns-in_err-hyper c =
    let e = handed_on c.from_residual.result c.in_err-hyper.field-0.0 c.from_residual.ensures in
    rw e (refused_says _ c.read_table-read.result c.read_table-read.ensures c.in_err-hyper.was)

pub returns : goal.returns
returns c =
    let r = c.read_table-read in (
      done _ r.result r.ensures c.in_ok-hyper.was _ c.read_grid.ensures,
      is_read _ r.result r.ensures c.in_ok-hyper.was _ c.read_grid.ensures,
      tasks_are _ r.result r.ensures c.in_ok-hyper.was _ c.read_grid.ensures,
      signals_are _ r.result r.ensures c.in_ok-hyper.was _ c.read_grid.ensures,
      c.read_grid.ensures,
    )

pub invariant_of-result : goal.invariant_of-result
invariant_of-result c =
    let r = c.read_table-read in
    record { fits = fits _ r.result r.ensures c.in_ok-hyper.was _ c.read_grid.ensures; own = own _ r.result r.ensures c.in_ok-hyper.was _ c.read_grid.ensures }
