-- The plan of a signal in one pass over all openings and closings of the hyper-period, each element with one until-tick: the form of the code. Assumes nothing.
use Rattle.std.specs.Prelude.{ℕ, suc, ◌+◌, ◌-◌, ◌≤◌, ◌<◌, max, List, ◌⊎◌, ◌≡◌, T, length, get_or, set, take, replicate}
use Rattle.rules.specs.Words.{total}
use Rattle.rules.specs.Windows.{Table, closes, instance, instances}
use Rattle.rules.specs.Table.{most_tasks, most_uses, Fits}
use Rattle.rules.specs.Schedule.{Schedule, most}
use Rattle.rules.specs.Plan.{plan}
use Rattle.rules.specs.Bytes.{Part, bf, wi, ri, free, writers_below, readers_below}
use Rattle.theory.specs.Untils.{first_free}
use Rattle.theory.specs.Sweep.{never, none_held, events, through, acted}

-- ---- the uses of a table, numbered as their records stand in a schedule

module _ (tab : Table) where
  -- how many records of writer and reader instances signal s has
  abbrev pub uses_of : ℕ → ℕ
  uses_of s = writers_below tab s tab.tasks + readers_below tab s tab.tasks

  -- and the signals below s together
  unfoldable pub first_use : ℕ → ℕ
  first_use s = total uses_of s

  -- the number of a record among them
  abbrev pub use_of : Part → ℕ
  use_of (bf s) = first_use s
  use_of (wi s k i) = first_use s + writers_below tab s k + i
  use_of (ri s k i) = first_use s + writers_below tab s tab.tasks + readers_below tab s k + i

  -- x is the record of a writer or a reader instance of signal s
  abbrev pub IsUse : ℕ → Part → Type 0
  IsUse s (bf r) = ⊥
  IsUse s (wi r k i) = (r ≡ s) × (k < tab.tasks) × T (tab.writes s k) × (i < instances tab k)
  IsUse s (ri r k i) = (r ≡ s) × (k < tab.tasks) × T (tab.reads s k) × (i < instances tab k)

-- ---- the pass

-- What is known after some of the openings and closings: the tick until which each element is held; the element of each task's latest value; the element
-- of the value that stands; the last closing of the readers that opened since it was published; one more than the highest element taken; the elements
-- of the uses.
pub record Choice : Type 0 where
  pub held : List ℕ
  pub own : List ℕ
  pub current : ℕ
  pub reach : ℕ
  pub count : ℕ
  pub uses : List ℕ

-- the lowest element that is not held past t; the last one is free where the others are not
abbrev pub free_element : Table → List ℕ → ℕ → ℕ
free_element tab held t = first_free (take (most tab - 1) held) t

-- a reader, use number u, gets the element that stands, and closes at tick b
abbrev pub sent : Choice → (u b : ℕ) → Choice
sent c u b = record {
  held = c.held;
  own = c.own;
  current = c.current;
  reach = max c.reach b;
  count = c.count;
  uses = set c.uses u c.current;
}

-- task k, use number u, takes element e
abbrev pub taken : Choice → (u k e : ℕ) → Choice
taken c u k e = record {
  held = set c.held e never;
  own = set c.own k e;
  current = c.current;
  reach = c.reach;
  count = max c.count (suc e);
  uses = set c.uses u e;
}

-- what task k wrote is published at tick b
abbrev pub followed : Choice → (k b : ℕ) → Choice
followed c k b = record {
  held = set c.held c.current (max b c.reach);
  own = c.own;
  current = get_or c.own k 0;
  reach = 0;
  count = c.count;
  uses = c.uses;
}

module _ (tab : Table) (s : ℕ) where
  -- a reader opens at tick t
  abbrev pub reads : Choice → ℕ → ℕ → Choice
  reads c k t = sent c (use_of tab (ri s k (instance tab k t))) (closes tab k (instance tab k t))

  -- a writer opens at tick t
  abbrev pub takes : Choice → ℕ → ℕ → Choice
  takes c k t = taken c (use_of tab (wi s k (instance tab k t))) k (free_element tab c.held t)

  -- a writer whose window ends with tick t publishes at t + 1
  abbrev pub publishes : Choice → ℕ → ℕ → Choice
  publishes c k t = followed c k (suc t)

  abbrev pub choose : Choice → ℕ → Choice
  choose = acted tab s reads takes publishes

  -- at the start the carried value stands in element 0
  abbrev pub unchosen : List ℕ → Choice
  unchosen uses = record { held = set (none_held (most tab)) 0 never; own = replicate most_tasks 0; current = 0; reach = 0; count = 1; uses = uses }

  unfoldable pub chosen : List ℕ → Choice
  chosen uses = through choose (unchosen uses) (events tab)

-- ---- what the pass gives

-- The elements of the uses of signal s are those of schedule E, and all others stay.
pub record SignalUses (tab : Table) (E : Schedule) (s : ℕ) (before after : List ℕ) : Type 0 where
  pub size : length after ≡ length before
  pub right : (x : Part) → IsUse tab s x → get_or after (use_of tab x) 0 ≡ free E x
  pub outside : (u : ℕ) → (u < first_use tab s) ⊎ (first_use tab (suc s) ≤ u) → get_or after u 0 ≡ get_or before u 0

-- It gives the plan's elements, and the plan's count.
pub record ChoosesPlan (tab : Table) (s : ℕ) (uses : List ℕ) : Type 0 where
  pub elements : SignalUses tab (plan tab) s uses (chosen tab s uses).uses
  pub count : (chosen tab s uses).count ≡ (plan tab).count s

abbrev pub PlanChosen : Table → Type 0
PlanChosen tab = Fits tab → (s : ℕ) → s < tab.signals → (uses : List ℕ) → length uses ≡ most_uses → ChoosesPlan tab s uses
