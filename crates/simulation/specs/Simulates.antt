-- The state that the code keeps stands for a state of the machine of document 01 (rules), call by call. Assumes nothing.
use Rattle.std.specs.Prelude.{ℕ, ◌+◌, ◌≤◌, ◌<◌, ◌≡◌, Bool, true, not, ◌&&◌, List, [], ◌∷◌, map, ltb, eqb, length, get_or}
use Rattle.rules.specs.Windows.{Table, instances}
use Rattle.rules.specs.Windows as windows
use Rattle.rules.specs.Values.{by}
use Rattle.rules.specs.Values as values
use Rattle.rules.specs.Table.{words, Fits, most_tasks, most_signals}
use Rattle.rules.specs.Numbers.{Told, tell, told}
use Rattle.rules.specs.Meaning.{Call, step, read, write, Outcome, done, given, refused}
use Rattle.rules.specs.Stores.{Place, in_words, nowhere, word_in}
use Rattle.rules.specs.Machine.{State, Layout, answer, after, answers}
use Rattle.state.specs.Parts.{at, none, cell, hyper, periods, starts, ends, counts, reads, writes, carried, held, tick, numbers}
use Rattle.state.specs.Rows.{use_of}
use Rattle.machine.specs.declared.Machine.{Machine}
use Rattle.machine.specs.Calls.{fit, step_of, read_of, write_of}

-- the number that the code keeps for a place
abbrev pub position_of : Place → ℕ
position_of (in_words a) = a
position_of nowhere = none

module _ (tab : Table) where
  -- the table has task k and signal s, and this access of theirs
  abbrev pub permits : (ℕ → ℕ → Bool) → ℕ → ℕ → Bool
  permits allowed k s = ltb k tab.tasks && ltb s tab.signals && allowed s k

  -- the part `kind` has exactly the accesses of the table, and each instance's use of one has its place
  pub record Accesses (allowed : ℕ → ℕ → Bool) (place : ℕ → ℕ → ℕ → Place) (kind : ℕ) (n : List ℕ) : Type 0 where
    pub exact : (k s : ℕ) → k < most_tasks → s < most_signals → eqb (at n (cell kind k s)) none ≡ not (permits allowed k s)
    pub stands : (s k i : ℕ) → permits allowed k s ≡ true → i < instances tab k → use_of n kind k i s ≡ position_of (place s k i)

  -- What loading alone writes: the table's windows and accesses, and where its values stand.
  pub record Knows (L : Layout) (n : List ℕ) : Type 0 where
    pub hyper_is : at n hyper ≡ windows.hyper tab
    pub periods_are : (k : ℕ) → k < tab.tasks → at n (periods + k) ≡ tab.period k
    pub starts_are : (k : ℕ) → k < tab.tasks → at n (starts + k) ≡ tab.start k
    pub ends_are : (k : ℕ) → k < tab.tasks → at n (ends + k) ≡ tab.end k
    pub counts_are : (k : ℕ) → k < tab.tasks → at n (counts + k) ≡ instances tab k
    pub no_task : (k : ℕ) → tab.tasks ≤ k → k < most_tasks → at n (counts + k) ≡ 0
    pub reads_are : Accesses tab.reads L.sent reads n
    pub writes_are : Accesses tab.writes (λ s k i. L.place (by s k i)) writes n
    pub carried_are : (s : ℕ) → s < tab.signals → at n (carried + s) ≡ position_of (L.place (values.carried s))
    pub none_carried : (s : ℕ) → tab.signals ≤ s → s < most_signals → at n (carried + s) ≡ 0

-- The state m runs the table in the layout, and stands where the state st of document 01's machine stands.
pub record Runs (tab : Table) (L : Layout) (st : State) (m : Machine) : Type 0 where
  pub fits : fit m ≡ true
  pub long : length m.numbers ≡ numbers
  pub knows : Knows tab L m.numbers
  pub defaults_are : (s : ℕ) → s < tab.signals → get_or m.defaults s 0 ≡ tab.default s
  pub tick_is : at m.numbers tick ≡ st.tick
  pub held_are : (s : ℕ) → s < tab.signals → at m.numbers (held + s) ≡ position_of (get_or st.last s nowhere)
  pub nothing_held : (s : ℕ) → tab.signals ≤ s → s < most_signals → at m.numbers (held + s) ≡ 0
  pub store_is : m.store ≡ st.block
  pub store_long : length st.block ≡ words

-- What a call says: number, place and word.
pub record Said : Type 0 where
  pub told : Told
  pub word : ℕ

abbrev pub said : Told → ℕ → Said
said t w = record { told = t; word = w }

-- what document 01's machine says
abbrev pub outcome_said : Outcome → Said
outcome_said done = said (tell 0 0) 0
outcome_said (given c) = said (tell 0 0) (word_in c)
outcome_said (refused n) = said (tell n 0) 0

-- what the code's calls say, and the state after them
abbrev pub call_said : Machine → Call → Said
call_said m step = said (told (step_of m).answer) 0
call_said m (read k s) = said (told (read_of m k s).answer) (read_of m k s).word
call_said m (write k s c) = said (told (write_of m k s (word_in c)).answer) 0

abbrev pub call_leaves : Machine → Call → Machine
call_leaves m step = (step_of m).machine
call_leaves m (read k s) = m
call_leaves m (write k s c) = (write_of m k s (word_in c)).machine

-- With any table that fits, in any layout: each call says what document 01's machine says, and leaves a state that stands for its next.
abbrev pub Simulates : Table → Layout → Type 0
Simulates tab L =
    Fits tab → (st : State) (m : Machine) → Runs tab L st m → (c : Call)
    → (call_said m c ≡ outcome_said (answer tab L st c)) × Runs tab L (after tab L st c) (call_leaves m c)

-- what calls made one after the other say
unfoldable pub calls_said : Machine → List Call → List Said
calls_said m [] = []
calls_said m (c ∷ cs) = call_said m c ∷ calls_said (call_leaves m c) cs

-- So any calls say what document 01's machine says.
abbrev pub SimulatesAll : Table → Layout → Type 0
SimulatesAll tab L =
    Fits tab → (st : State) (m : Machine) → Runs tab L st m → (cs : List Call) → calls_said m cs ≡ map outcome_said (answers tab L st cs)
