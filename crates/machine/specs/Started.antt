-- Document 01, loading, after its checks: the block zeroed, every element filled with its default, tick 0 opened. Assumes nothing.
use Rattle.std.specs.Prelude.{ℕ, ◌≤◌, ◌≡◌, List, length, replicate}
use Rattle.rules.specs.Words.{up_to}
use Rattle.rules.specs.Windows.{Table, hyper}
use Rattle.rules.specs.Table.{words, Fits}
use Rattle.rules.specs.Schedule.{Schedule, base}
use Rattle.rules.specs.Bytes.{schedule_in, schedule_length}
use Rattle.rules.specs.Reading.{Grid, table_of}
use Rattle.rules.specs.declared.Tasks.{Tasks}
use Rattle.accept.specs.declared.Accepted.{Accepted}
use Rattle.rules.specs.declared.Signals.{Signals}
use Rattle.state.specs.Rows.{openings, released}
use Rattle.loading.specs.Laid.{blank, counts_of, windows_laid, signal_laid, store_laid}
use Rattle.machine.specs.declared.Machine.{Machine}
use Rattle.machine.specs.Calls.{keeping}

-- What loading is given after its checks.
pub record Given : Type 0 where
  pub tasks : Tasks
  pub signals : Signals
  pub grid : Grid
  pub hyper : ℕ
  pub schedule : List ℕ

abbrev pub given : Tasks → Signals → Grid → ℕ → List ℕ → Given
given tasks signals grid hyper schedule = record { tasks = tasks; signals = signals; grid = grid; hyper = hyper; schedule = schedule }

-- an accepted table, with the bytes of a schedule
abbrev pub given_of : Accepted → List ℕ → Given
given_of a schedule = given a.tasks a.signals a.grid a.hyper schedule

module _ (g : Given) where
  -- its table, and the schedule that the bytes hold
  abbrev pub tab : Table
  tab = table_of g.tasks g.signals g.grid

  abbrev pub made : Schedule
  made = schedule_in tab g.schedule

  -- how many instances each task has
  abbrev pub counted : List ℕ
  counted = counts_of g.tasks g.hyper

  -- the windows, then every signal
  unfoldable pub laid : List ℕ
  laid = up_to g.signals.count (signal_laid g.grid counted g.schedule g.tasks.count) (windows_laid g.tasks counted (blank g.hyper))

  -- every element with its default
  unfoldable pub filled : List ℕ
  filled = up_to g.signals.count (store_laid g.grid counted g.schedule g.tasks.count g.signals.defaults) (replicate words 0)

  -- the carried values stand, and tick 0 opens
  unfoldable pub started : Machine
  started = keeping (released laid) g.signals.defaults (openings (released laid) g.signals.defaults filled)

  -- what the checks guarantee: the table fits, this is its hyper-period, the schedule has its length, and its counts sum to at most 256
  pub record Checked : Type 0 where
    pub fits : Fits tab
    pub hyper_is : g.hyper ≡ hyper tab
    pub whole : length g.schedule ≡ schedule_length tab
    pub in_all : base made g.signals.count ≤ words
