-- Neither a schedule in its bytes nor the pass over a signal depends on the signals' defaults or on their number. Assumes nothing.
use mathlib.Core.Bool.{Bool}
use mathlib.Core.List.{List}
use mathlib.Core.Path.{◌≡◌, refl, ap, ◌∙◌}
use Prim.Native.Nat.{ℕ}
use Rattle.rules.specs.Windows.{Table, hyper}
use Rattle.rules.specs.Schedule.{Schedule}
use Rattle.rules.specs.Bytes.{writers_below, readers_below, size_of, start_of, schedule_in}
use Rattle.theory.specs.Sweep.{Pass, events, acted, sweep}
use Rattle.accept.specs.Accepts.{its_table}
use Rattle.accept.specs.declared.Accepted.{Accepted}
use Rattle.sweep.specs.Pass.{grid_table, all_swept}

module _ (a : Accepted) (bytes : List ℕ) where
  abbrev alone : Table
  alone = grid_table a.tasks a.grid

  schedule_same : schedule_in (its_table a) bytes ≡ schedule_in alone bytes
  unfolding hyper writers_below readers_below size_of start_of schedule_in
  schedule_same = refl

  sweep_same : (E : Schedule) (s : ℕ) → sweep (its_table a) E s ≡ sweep alone E s
  unfolding hyper events acted sweep
  sweep_same E s = refl

  pub sweep_alone : (s : ℕ) {r : Bool} → r ≡ (sweep (its_table a) (schedule_in (its_table a) bytes) s).right → r ≡ (sweep alone (schedule_in alone bytes) s).right
  sweep_alone s e = e ∙ ap (λ E. (sweep (its_table a) E s).right) schedule_same ∙ ap (λ (p : Pass). p.right) (sweep_same (schedule_in alone bytes) s)

  all_same : (n : ℕ) → all_swept (its_table a) bytes n ≡ all_swept alone bytes n
  unfolding all_swept hyper writers_below readers_below size_of start_of schedule_in events acted sweep
  all_same n = refl

  pub all_alone : (n : ℕ) {r : Bool} → r ≡ all_swept (its_table a) bytes n → r ≡ all_swept alone bytes n
  all_alone n e = e ∙ all_same n
