-- What the tasks have of records of one signal, on either side. Assumes nothing.
use mathlib.Core.Bool.{Bool, true, false}
use mathlib.Core.List.{List}
use mathlib.Core.Path.{◌≡◌}
use Prim.Native.Nat.{ℕ, ◌≤◌}
use native.Mathlib.Omega.{arith}
use Rattle.rules.specs.Words.{total, times}
use Rattle.rules.specs.Windows.{Table, hyper, instances}
use Rattle.rules.specs.Table.{most_instances, Fits}
use Rattle.rules.specs.Bytes.{writers_below, readers_below}
use Rattle.rules.specs.Reading.{Grid, table_of}
use Rattle.rules.specs.declared.Tasks.{Tasks}
use Rattle.rules.specs.declared.Signals.{Signals}
use Rattle.rules.specs.declared.Side.{Side}
use Rattle.theory.proofs.Sums.{total_mono}
use Rattle.form.specs.Records.{Instances, permits, users_below}
use Rattle.form.proofs.Parted.{by_periods}
use Rattle.form.proofs.Tables.{writers_is, readers_is}

fewer : (b : Bool) (n : ℕ) → times b n ≤ n
fewer true n = omega arith
fewer false n = omega arith

module _ (tasks : Tasks) (signals : Signals) (grid : Grid) (F : Fits (table_of tasks signals grid)) where
  abbrev tab : Table
  tab = table_of tasks signals grid

  -- no task has more records of a signal than instances, whatever the table's signals
  pub records_few : (side : Side) (s : ℕ) → total (λ k. times (permits grid side s k) (instances tab k)) tasks.count ≤ most_instances
  records_few side s = omega (arith, total_mono (λ k. times (permits grid side s k) (instances tab k)) (instances tab) tasks.count (λ k h. fewer (permits grid side s k) (instances tab k)), F.few_instances)

  module _ (h : ℕ) (e : h ≡ hyper tab) (list : List ℕ) (I : Instances tasks h list) (s : ℕ) where
    -- so the code counts no more either
    pub row_few : (side : Side) → users_below grid list side s tasks.count ≤ most_instances
    unfolding writers_below readers_below
    row_few Side.Writers = omega (arith, writers_is tasks signals grid h list (by_periods tasks signals grid e) I s tasks.count (omega arith), records_few Side.Writers s)
    row_few Side.Readers = omega (arith, readers_is tasks signals grid h list (by_periods tasks signals grid e) I s tasks.count (omega arith), records_few Side.Readers s)
