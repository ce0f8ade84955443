-- `put_figures` meets its contract: the figures in front by a call of its own with one fewer, then the last. Assumes nothing.
use native.Mathlib.Omega.{arith}
use Rattle.console.proofs.Figures.{figures_none, figures_one, figures_more}
use Rattle.console.proofs.page.+put_figures.Goals as goal

pub returns-then-most-eq0 : goal.returns-then-most-eq0
returns-then-most-eq0 t c = figures_none _ _ _ c.if-most-eq0.true

pub returns-then-n-lt-WIDE : goal.returns-then-n-lt-WIDE
returns-then-n-lt-WIDE t c = figures_one _ _ _ c.if-most-eq0.false c.if-n-lt-WIDE.true c.put_at.ensures c.glyph.ensures

pub returns : goal.returns
returns t c = figures_more _ _ _ c.if-most-eq0.false (omega arith) c.put_figures-end.ensures c.put_at-2.ensures c.glyph-2.ensures
