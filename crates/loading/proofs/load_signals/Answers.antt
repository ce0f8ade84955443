-- There is room for each signal, since there is for all.
use native.Mathlib.Omega.{arith}
use mathlib.Core.Path.{ap}
use Prim.Native.Nat.{◌+◌}
use Rattle.loading.specs.Laid.{count_in}
use Rattle.loading.proofs.Sums.{used_next, used_up, base_next, base_up}
use Rattle.loading.proofs.load_signals.Goals as goal

pub load_signal-next-requires : goal.load_signal-next-requires
load_signal-next-requires c = let a = c.args in let g = a.source in let u = g.users.now in let i = c.loop-s in let p = c.requires in let e = ap (count_in g.schedule.now i.s) i.invariant.3 in let next = used_next u.grid.now u.instances g.schedule.now u.tasks i.s in let up = used_up u.grid.now u.instances g.schedule.now u.tasks a.signals (i.s + 1) (omega arith) in record { few_tasks = p.few_tasks; signal = omega arith; few_uses = omega (arith, next, up); bytes = omega (arith, next, up); elements = omega (arith, e, base_next u.grid.now u.instances g.schedule.now u.tasks i.s, base_up u.grid.now u.instances g.schedule.now u.tasks a.signals (i.s + 1) (omega arith)) }
