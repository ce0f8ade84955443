-- `list_record` meets its contract: the mark says which record it is. Assumes nothing.
use mathlib.Core.Path.{ap}
use native.Mathlib.Omega.{arith}
use Rattle.text.specs.Walk.{Found}
use Rattle.text.proofs.Walked.{is_signal, is_write, is_read}
use Rattle.text.proofs.walk.list_record.Goals as goal

pub list_signal-requires : goal.list_signal-requires
list_signal-requires c = omega (arith, ap (λ (f : Found). f.size) (is_signal _ c.marked.ensures c.if-marked.true))

pub returns-then-marked : goal.returns-then-marked
returns-then-marked c = rw (is_signal _ c.marked.ensures c.if-marked.true) c.list_signal.ensures

pub list_use-requires : goal.list_use-requires
list_use-requires c = omega (arith, ap (λ (f : Found). f.size) (is_write _ c.marked.ensures c.if-marked.false c.marked-2.ensures c.if-marked-2.true))

pub returns-then-marked-2 : goal.returns-then-marked-2
returns-then-marked-2 c = rw (is_write _ c.marked.ensures c.if-marked.false c.marked-2.ensures c.if-marked-2.true) c.list_use.ensures

pub list_use-requires-2 : goal.list_use-requires-2
list_use-requires-2 c = omega (arith, ap (λ (f : Found). f.size) (is_read _ c.marked.ensures c.if-marked.false c.marked-2.ensures c.if-marked-2.false))

pub returns : goal.returns
returns c = rw (is_read _ c.marked.ensures c.if-marked.false c.marked-2.ensures c.if-marked-2.false) c.list_use-2.ensures
