-- The check of a signal's elements in one pass over all openings and closings of the hyper-period: the form of the code. Assumes nothing.
use Rattle.std.specs.Prelude.{ℕ, suc, ◌+◌, ◌*◌, ◌-◌, ◌/◌, ◌%◌, ◌≤◌, ◌<◌, max, Bool, true, ◌&&◌, cond, List, [], ◌∷◌, ◌++◌, ◌↔◌, ◌≡◌, T, leb, eqb, get_or, set, replicate}
use Rattle.rules.specs.Words.{gather, only}
use Rattle.rules.specs.Windows.{Table, opens, closes, instance, instances, hyper}
use Rattle.rules.specs.Values.{Value, signal_of, bound, Live, IsValue}
use Rattle.rules.specs.Table.{most_tasks, longest, Fits}
use Rattle.rules.specs.Schedule.{Schedule, most, room, element_of, base, Passes}

-- ---- openings and closings as numbers that rise by tick, closings before openings, then by task

abbrev pub closing_number : ℕ → ℕ → ℕ
closing_number t k = t * 2 * most_tasks + k

abbrev pub opening_number : ℕ → ℕ → ℕ
opening_number t k = (t * 2 + 1) * most_tasks + k

-- what such a number says
abbrev pub task_in : ℕ → ℕ
task_in n = n % most_tasks

abbrev pub tick_in : ℕ → ℕ
tick_in n = n / most_tasks / 2

abbrev pub is_opening : ℕ → Bool
is_opening n = eqb (n / most_tasks % 2) 1

module _ (tab : Table) where
  -- the tasks that open at tick t
  abbrev pub openings_at : ℕ → List ℕ
  openings_at t = gather tab.tasks (λ k. only (eqb (opens tab k (instance tab k t)) t) (opening_number t k))

  -- those that close at tick t + 1
  abbrev pub closings_after : ℕ → List ℕ
  closings_after t = gather tab.tasks (λ k. only (eqb (closes tab k (instance tab k t)) (suc t)) (closing_number (suc t) k))

  -- all of one hyper-period in their order
  unfoldable pub events : List ℕ
  events = gather (hyper tab) (λ t. openings_at t ++ closings_after t)

-- ---- the pass

-- one after the other
unfoldable pub through : {A : Type 0} → (A → ℕ → A) → A → List ℕ → A
through f a [] = a
through f a (n ∷ ns) = through f (f a n) ns

-- task k opens at tick t: for signal s it reads, then writes, if it may
abbrev pub opened : {A : Type 0} → Table → ℕ → (reads writes : A → ℕ → ℕ → A) → A → ℕ → ℕ → A
opened tab s reads writes a k t = let b = cond (tab.reads s k) (reads a k t) a in cond (tab.writes s k) (writes b k t) b

-- its window ends with tick t: it publishes, if it may
abbrev pub closed : {A : Type 0} → Table → ℕ → (publishes : A → ℕ → ℕ → A) → A → ℕ → ℕ → A
closed tab s publishes a k t = cond (tab.writes s k) (publishes a k t) a

-- what the opening or closing with number n does
unfoldable pub acted : {A : Type 0} → Table → ℕ → (reads writes publishes : A → ℕ → ℕ → A) → A → ℕ → A
acted tab s reads writes publishes a n = cond (is_opening n) (opened tab s reads writes a (task_in n) (tick_in n)) (closed tab s publishes a (task_in n) (tick_in n - 1))

-- What is known after some of them: no mistake was met; the tick until which each element is held; the element of the value that stands;
-- the last closing of the readers that opened since it was published.
pub record Pass : Type 0 where
  pub right : Bool
  pub held : List ℕ
  pub current : ℕ
  pub reach : ℕ

-- no window opens at this tick or later: so long is an element held whose value is being written or stands
abbrev pub never : ℕ
never = longest

abbrev pub none_held : ℕ → List ℕ
none_held n = replicate n 0

-- a reader opens with its element, and closes at tick c
abbrev pub reading : Pass → ℕ → ℕ → Pass
reading p e c = record { right = p.right && eqb e p.current; held = p.held; current = p.current; reach = max p.reach c }

-- a writer opens at tick t with its element
abbrev pub writing : Pass → ℕ → ℕ → Pass
writing p e t = record { right = p.right && leb (get_or p.held e 0) t; held = set p.held e never; current = p.current; reach = p.reach }

-- a writer publishes at tick t, and its element is the one that stands
abbrev pub publishing : Pass → ℕ → ℕ → Pass
publishing p e t = record { right = p.right; held = set p.held p.current (max t p.reach); current = e; reach = 0 }

module _ (tab : Table) (E : Schedule) (s : ℕ) where
  -- task k opens at tick t as a reader, or as a writer
  abbrev pub reader_opens : Pass → ℕ → ℕ → Pass
  reader_opens p k t = reading p (E.reader s k (instance tab k t)) (closes tab k (instance tab k t))

  abbrev pub writer_opens : Pass → ℕ → ℕ → Pass
  writer_opens p k t = writing p (E.writer s k (instance tab k t)) t

  -- its window ends with tick t
  abbrev pub writer_closes : Pass → ℕ → ℕ → Pass
  writer_closes p k t = publishing p (E.writer s k (instance tab k t)) (suc t)

  abbrev pub handled : Pass → ℕ → Pass
  handled = acted tab s reader_opens writer_opens writer_closes

  -- at the start the carried value stands in element 0
  abbrev pub started : Pass
  started = record { right = true; held = set (none_held (most tab)) 0 never; current = 0; reach = 0 }

  unfoldable pub sweep : Pass
  sweep = through handled started (events tab)

-- ---- what the pass says

-- what a schedule that passes keeps of signal s: each reader is sent to what it is bound to, and no two values live at one tick have one element
pub record SignalPasses (tab : Table) (E : Schedule) (s : ℕ) : Type 0 where
  pub binds : (k i : ℕ) → k < tab.tasks → T (tab.reads s k) → i < instances tab k → E.reader s k i ≡ element_of E (bound tab s (opens tab k i))
  pub apart : (u v : Value) (t : ℕ) → IsValue tab u → IsValue tab v → signal_of u ≡ s → signal_of v ≡ s → Live tab u t → Live tab v t → element_of E u ≡ element_of E v → u ≡ v

-- Where the elements of a signal's values are elements at all, the pass meets no mistake exactly if the signal passes.
abbrev pub SweepExact : Table → Type 0
SweepExact tab = Fits tab → (E : Schedule) (s : ℕ) → s < tab.signals → ((v : Value) → IsValue tab v → signal_of v ≡ s → element_of E v < most tab)
    → ((sweep tab E s).right ≡ true) ↔ SignalPasses tab E s

-- what the records of a schedule say by themselves: counts, elements below them, and the sum
pub record Counted (tab : Table) (E : Schedule) : Type 0 where
  pub counted : (s : ℕ) → s < tab.signals → (1 ≤ E.count s) × (E.count s ≤ most tab)
  pub in_all : base E tab.signals ≤ room tab
  pub below : (v : Value) → IsValue tab v → element_of E v < E.count (signal_of v)

-- So a schedule whose records are right passes exactly if no signal's pass meets a mistake.
abbrev pub SweepsExact : Table → Type 0
SweepsExact tab = Fits tab → (E : Schedule) → Counted tab E → ((s : ℕ) → s < tab.signals → (sweep tab E s).right ≡ true) ↔ Passes tab E
