-- `Accepted::windowed` meets its contract: the table keeps document 01's rules on its tasks.
use Rattle.windows.proofs.Windows.{fits_window}
use Rattle.accept.specs.Accepts.{its_table}
use Rattle.accept.proofs.Accepted.windowed.Goals as goal

pub invariant_of-result : goal.invariant_of-result
invariant_of-result c = let a = c.args.self.now in
    record { few = a.fits.few_tasks; windowed = fits_window (its_table a) a.fits }
