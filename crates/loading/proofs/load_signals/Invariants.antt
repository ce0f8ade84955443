use mathlib.Core.Path.{◌≡◌}
use Prim.Native.Nat.{◌≤◌}
use Rattle.rules.specs.Words.{up_to}
use Rattle.loading.specs.Laid.{used_before, base_before, signal_laid, store_laid}
use Rattle.loading.proofs.load_signals.Given as goal

abbrev pub invariant-loop-s : goal.invariant-loop-s
invariant-loop-s l = (l.s ≤ l.signals) × (l.numbers ≡ up_to l.s (signal_laid l.source.users.now.grid.now l.source.users.now.instances l.source.schedule.now l.source.users.now.tasks) l.initial.numbers) × (l.store ≡ up_to l.s (store_laid l.source.users.now.grid.now l.source.users.now.instances l.source.schedule.now l.source.users.now.tasks l.source.defaults.now) l.initial.store) × (l.next.used ≡ used_before l.source.users.now.grid.now l.source.users.now.instances l.source.users.now.tasks l.s) × (l.next.base ≡ base_before l.source.users.now.grid.now l.source.users.now.instances l.source.schedule.now l.source.users.now.tasks l.s)
