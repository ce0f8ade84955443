-- The openings and closings of every table with these tasks are those of the tasks alone. Assumes nothing.
use mathlib.Core.Path.{◌≡◌, refl, ◌∙◌}
use Prim.Native.Nat.{◌+◌, ◌*◌, ◌≤◌, zero-le}
use native.Mathlib.Nat.{not-suc-le-zero, zero-mul}
use native.Mathlib.Omega.{arith}
use lib.ListN.{length}
use Rattle.rules.specs.Words.{total}
use Rattle.rules.specs.Windows.{Table, hyper, instances}
use Rattle.rules.specs.Table.{accesses_of, accesses, uses, most_tasks, most_accesses, most_uses, Fits}
use Rattle.rules.specs.Reading.{Grid, table_of, no_signals, no_grid}
use Rattle.rules.specs.declared.Tasks.{Tasks}
use Rattle.rules.specs.declared.Signals.{Signals}
use Rattle.theory.specs.Sweep.{events}
use Rattle.theory.proofs.Sums.{total_none, total_same}
use Rattle.theory.proofs.Events.{events_up, events_all, few_events}
use Rattle.accept.specs.declared.Accepted.{Accepted}
use Rattle.events.specs.Order.{tasks_table, most_events}

-- without signals there is no access, whatever the grid
no_accesses : (tasks : Tasks) (grid : Grid) → accesses (table_of tasks no_signals grid) ≤ most_accesses
unfolding accesses accesses_of total
no_accesses tasks grid = omega (arith, total_none tasks.count)

no_uses : (tasks : Tasks) (grid : Grid) → uses (table_of tasks no_signals grid) ≤ most_uses
unfolding uses accesses_of total
no_uses tasks grid = omega (arith, total_same (λ k. 0 * instances (table_of tasks no_signals grid) k) (λ k. 0) tasks.count (λ k. zero-mul (instances (table_of tasks no_signals grid) k)), total_none tasks.count)

module _ (tasks : Tasks) (signals : Signals) (grid : Grid) where
  pub hyper_alone : hyper (table_of tasks signals grid) ≡ hyper (tasks_table tasks)
  unfolding hyper
  hyper_alone = refl

  pub events_alone : events (table_of tasks signals grid) ≡ events (tasks_table tasks)
  unfolding events hyper
  events_alone = refl

  -- so the tasks are accepted with any grid, if no signal is left
  pub fits_alone : Fits (table_of tasks signals grid) → (other : Grid) → Fits (table_of tasks no_signals other)
  unfolding hyper
  fits_alone F other = record {
    some_task = F.some_task;
    few_tasks = F.few_tasks;
    few_signals = zero-le;
    few_accesses = no_accesses tasks other;
    window = F.window;
    within = F.within;
    short = F.short;
    hyper_short = F.hyper_short;
    few_instances = F.few_instances;
    few_uses = no_uses tasks other;
    single = λ s h. absurd (not-suc-le-zero h);
  }

-- what an accepted table says of its tasks alone
module _ (a : Accepted) where
  pub fits_tasks : Fits (tasks_table a.tasks)
  fits_tasks = fits_alone a.tasks a.signals a.grid a.fits no_grid

  pub hyper_tasks : a.hyper ≡ hyper (tasks_table a.tasks)
  hyper_tasks = a.own ∙ hyper_alone a.tasks a.signals a.grid

-- an accepted table has no more openings and closings than there are places
pub few : (tab : Table) → Fits tab → length (events tab) ≤ most_events
few tab F = omega (arith, few_events tab F most_tasks (most_tasks + hyper tab * (2 * most_tasks)) (events tab) (events_up tab F) (events_all tab F), F.few_instances)
