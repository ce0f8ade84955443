-- One signal: its parts one after the other.
use native.Mathlib.Omega.{arith}
use mathlib.Core.Path.{◌≡◌, ap₂, ◌∙◌}
use Prim.Native.Nat.{◌-◌}
use Rattle.state.specs.Parts.{reads}
use Rattle.loading.specs.Laid.{place_accesses, place_uses, signal_uses, signal_at}
use Rattle.loading.proofs.load_signal.Goals as goal

pub returns : goal.returns
unfolding signal_at
returns c = let a = c.args in let g = a.source in let u = g.users.now in let b = a.before in let writers = c.place_accesses-written.ensures in let readers = c.place_accesses-used.ensures in let n : c.place_accesses-used.result - b.used ≡ signal_uses u.grid.now u.instances u.tasks a.signal = omega (arith, readers.1, writers.1) in (c.place_uses.ensures ∙ ap₂ (place_uses g.schedule.now a.signal b.base b.used) n (readers.0 ∙ ap₂ (λ f l. place_accesses reads u.grid.now u.instances 1 a.signal f u.tasks l) writers.1 writers.0), rw (← c.from-count.ensures) c.fill_elements.ensures, omega (arith, readers.1, writers.1), omega arith)
