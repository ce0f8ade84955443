-- The check of all signals of an accepted table says whether a schedule whose records are right passes. Assumes nothing.
use mathlib.Core.Bool.{true}
use mathlib.Core.List.{List}
use mathlib.Core.Logic.{◌↔◌}
use mathlib.Core.Path.{◌≡◌, ap, ◌∙◌}
use Prim.Native.Nat.{ℕ, ◌≤◌}
use native.Mathlib.Omega.{arith}
use lib.ListN.{length, take}
use Rattle.rules.specs.Windows.{Table}
use Rattle.rules.specs.Values.{by}
use Rattle.rules.specs.Schedule.{Passes}
use Rattle.rules.specs.Bytes.{schedule_length, schedule_in}
use Rattle.theory.specs.Sweep.{events, Counted}
use Rattle.theory.proofs.Check.{every_at, every_is}
use Rattle.theory.proofs.Swept.{sweeps_exact}
use Rattle.events.specs.declared.Events.{Events}
use Rattle.events.specs.Order.{tasks_table, ordered}
use Rattle.std.proofs.Math.Seq.{take-append_seam}
use Rattle.accept.specs.Accepts.{its_table}
use Rattle.accept.specs.declared.Accepted.{Accepted}
use Rattle.sweep.specs.Pass.{all_swept, InspectsAll}
use Rattle.sweep.proofs.Whole.{own_all}

module _ (a : Accepted) (bytes : List ℕ) (C : Counted (its_table a) (schedule_in (its_table a) bytes)) where
  abbrev tab : Table
  tab = its_table a

  pub accepts : (all_swept tab bytes a.signals.count ≡ true) ↔ Passes tab (schedule_in tab bytes)
  unfolding all_swept
  accepts = let exact = sweeps_exact tab a.fits (schedule_in tab bytes) C in (
    (λ q. exact.0 (every_at a.signals.count _ q)),
    λ P. every_is a.signals.count _ (exact.1 P),
  )

  -- what the check asks for is what right records give
  pub inspects_all : schedule_length tab ≤ length bytes → {turns : Events} → turns ≡ ordered (tasks_table a.tasks) → InspectsAll a a.signals.count (take turns.count turns.list) bytes
  unfolding schedule_length
  inspects_all w l =
      own_all a
      (ap (λ (o : Events). take o.count o.list) l ∙ take-append_seam (events (tasks_table a.tasks)) _)
      (omega arith)
      (λ s y k i h t m. omega (arith, C.below (by s k i) (y, h, t, m), C.counted s y))
