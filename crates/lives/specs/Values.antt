-- The values of one signal as the code finds them: one after the other, each with its life and its element. Assumes nothing.
use Rattle.std.specs.Prelude.{ℕ, ◌+◌, ◌*◌, ◌-◌, ◌/◌, ◌≤◌, ◌<◌, Bool, ◌&&◌, List, [], ◌∷◌, map, ◌++◌, ◌≡◌, length, get_or, take, drop, replicate, Result, Err, MatchResult}
use Rattle.rules.specs.Words.{gather, only}
use Rattle.rules.specs.Values.{carried, by, Life}
use Rattle.rules.specs.Table.{most_signals, most_values, most_elements, longest}
use Rattle.rules.specs.Plan.{Placed, line_of}
use Rattle.rules.specs.Reading.{task_of, writes_in, reads_in}
use Rattle.rules.specs.Numbers.{told, tell, all_done}
use Rattle.rules.specs.declared.Refusal.{Refusal}
use Rattle.rules.specs.declared.Task.{Task}
use Rattle.rules.specs.declared.Tasks.{Tasks}
use Rattle.theory.specs.Untils.{fold, untils}
use Rattle.theory.specs.Sweep.{task_in, tick_in, is_opening}
use Rattle.signals.specs.Forms.{until_of}
use Rattle.accept.specs.declared.Accepted.{Accepted}
use Rattle.lives.specs.declared.LiveValue.{LiveValue}
use Rattle.lives.specs.declared.Lives.{Lives}
use Rattle.lives.specs.Lives.{value_of, live_told, live_front}

-- a placed value as a record
abbrev pub shown : Placed → LiveValue
shown p = value_of (line_of p)

-- a record that stands for nothing
abbrev pub blank : LiveValue
blank = record { task = 0; instance = 0; from = 0; until = 0; element = 0 }

-- what stands in an array whose first places are in use
abbrev pub padded : List LiveValue → List LiveValue
padded vs = vs ++ replicate (most_values - length vs) blank

-- event number n opens a window of a task that writes signal s
abbrev pub writes_at : (ℕ → Bool) → ℕ → Bool
writes_at writes n = is_opening n && writes (task_in n)

-- the life of the value written in that window, by the task's own numbers
abbrev pub life_by : Accepted → ℕ → ℕ → Life
life_by a s n =
    let task : Task = task_of a.tasks (task_in n) in
    let i : ℕ = tick_in n / task.period in
    record { value = by s (task_in n) i; from = tick_in n; until = until_of a.tasks (writes_in a.grid s) (reads_in a.grid s) a.hyper (i * task.period + task.end) }

-- what the work on one such event asks
pub record Opening (tasks : Tasks) (s n : ℕ) : Type 0 where
  pub signal : s < most_signals
  pub task : task_in n < tasks.count
  pub tick : tick_in n ≤ longest
  pub closing : tick_in n / (task_of tasks (task_in n)).period * (task_of tasks (task_in n)).period + (task_of tasks (task_in n)).end ≤ longest

-- the first n records are those of the values, and those beyond stay
abbrev pub filled : Lives → ℕ → List LiveValue → List LiveValue
filled lives n ys = take n lives.values ++ drop n ys

-- what a list of so many records is filled with
pub record FilledWith (table : List ℕ) (s room : ℕ) (lives : Lives) : Type 0 where
  pub says : tell all_done lives.count ≡ live_told table s room
  pub fills : (ys : List LiveValue) → filled lives lives.count ys ≡ live_front table s room ys
  pub lent : lives.count ≤ room
  pub few : lives.count ≤ most_values

-- or the rule that broke
abbrev pub Fills : List ℕ → ℕ → ℕ → Result Lives Refusal → Type 0
Fills table s room r = MatchResult r (FilledWith table s room) (λ e. told (Err e) ≡ live_told table s room)

-- ---- what is known along the openings and closings of a hyper-period

-- the life of the carried value
abbrev pub carried_by : Accepted → ℕ → Life
carried_by a s = record { value = carried s; from = 0; until = until_of a.tasks (writes_in a.grid s) (reads_in a.grid s) a.hyper 0 }

-- the lives of the carried value and of those written in the windows that the first n events open
unfoldable pub lives_below : Accepted → ℕ → List ℕ → ℕ → List Life
lives_below a s events n = carried_by a s ∷ gather n (λ i. only (writes_at (writes_in a.grid s) (get_or events i 0)) (life_by a s (get_or events i 0)))

-- The arrays hold these lives: how many there are, their records, and the tick until which each element is held.
pub record Held (ls : List Life) (held : List ℕ) (values : List LiveValue) (count : ℕ) : Type 0 where
  pub number : count ≡ length ls
  pub records : values ≡ padded (map shown (fold [] ls))
  pub ticks : held ≡ untils [] ls ++ replicate (most_elements - length (untils [] ls)) 0
