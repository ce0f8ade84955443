-- The user's demands in his order, about the functions he calls: `table::read_table` with `sections::grid::read_grid`, `plan::plan`, `lives::live_list`,
-- `inspect::check_schedule`, `machine::Machine` with new, load, step, read and write, `machine::lists`, and the C functions (export). Each function is
-- named by the contract that its source cites (TableGives, GridGives, PlanGives, ListGives, CheckGives, Loads, StepGives, ..); each clause says what
-- follows for whatever the function gave. proofs/Demands.antt proves them all. Assumes nothing.
use Rattle.std.specs.Prelude.{ℕ, ◌≡◌, true, List, Result}
use Rattle.rules.specs.Windows.{Table}
use Rattle.rules.specs.Numbers.{told, all_done}
use Rattle.rules.specs.declared.Refusal.{Refusal}
use Rattle.theory.specs.Promises.{LiveWhenNeeded, HyperLeast, Latest, AnyRound, RefusedNothing, PlanOrder, TakesLowest, TwoEach, LongestSchedule}
use Rattle.plan.specs.Gives.{PlanGives}
use Rattle.lives.specs.declared.LiveValue.{LiveValue}
use Rattle.lives.specs.Gives.{ListGives}
use Rattle.machine.specs.declared.Machine.{Machine}
use Rattle.machine.specs.declared.Stepped.{Stepped}
use Rattle.machine.specs.Calls.{fit}
use Rattle.machine.specs.Load.{Loads}
use Rattle.simulation.specs.Fit.{FitExactly, LeadsInside}
use Rattle.promises.specs.Tables.{TablesExactly, TablesFirst}
use Rattle.promises.specs.Plans.{AllPlansRightly}
use Rattle.promises.specs.Lists.{AllListsRightly}
use Rattle.promises.specs.Listings.{AllListedWhole}
use Rattle.promises.specs.Schedules.{SchedulesExactly, PlansPass}
use Rattle.promises.specs.Runs.{AnyCalls, RunsAsPromised, LoadsExactly}
use Rattle.promises.specs.FromC.{SameFromC}

-- the answer is a refusal
abbrev pub Refused : Result ℕ Refusal → Type 0
Refused r = (told r).number ≡ all_done → ⊥

-- 1. Every call ends with an answer, however bad what it is given: no function above has a `requires`, and the checker proves that each ends.
pub record Demand1 : Type 0 where
  -- A refusal says which rule broke and where: of a table the first that the first wrong record breaks, else the first that the whole table breaks (and
  -- `first_broken` in Plans, Lists and Schedules says it of a plan, a live list and a schedule);
  pub tables : TablesFirst
  -- and it changes nothing lent:
  -- not the buffer to plan into,
  pub plan : (table out : List ℕ) (r : Result ℕ Refusal) (after : List ℕ) → PlanGives table out r after → Refused r → after ≡ out
  -- not the list of records,
  pub list : (table : List ℕ) (signal : ℕ) (list : List LiveValue) (r : Result ℕ Refusal) (after : List LiveValue) → ListGives table signal list r after → Refused r → after ≡ list
  -- not the machine that was running before a loading,
  pub load : (m : Machine) (table schedule : List ℕ) (r : Stepped) → Loads m table schedule r → Refused r.answer → r.machine ≡ m
  -- and not the machine that is stepped, read or written, by value, over its lists or from C; a refused read has word 0. 25 is given exactly on states
  -- that are not fit; no call leads from a fit state to one that is not, and an accepted loading leads from any state to a fit one.
  pub calls : AnyCalls
  -- A state is fit exactly when document 01's sentence holds of it, and nothing in a fit state leads outside it.
  pub fitness : (m : Machine) → FitExactly m
  pub leads_inside : (m : Machine) → fit m ≡ true → LeadsInside m
  -- What C is given of tables, plans, live lists and checks is what these functions give.
  pub from_C : SameFromC

-- 2. A table is accepted exactly when the rules hold; a schedule exactly when it has the form and bounds, each reader is sent to the value LET gives it
-- and no two values needed at one tick share an element. The plan is the one fixed plan: it passes the check, no passing schedule gives any signal fewer
-- elements, and too many elements is refused only where no schedule passes.
pub record Demand2 : Type 0 where
  pub tables : TablesExactly
  pub schedules : SchedulesExactly
  pub plans : AllPlansRightly
  pub plans_pass : PlansPass
  pub lists : AllListsRightly

-- 3. Loaded, whatever its state, with any table and any schedule that passes, then asked anything, refused calls among them, over any number of
-- hyper-periods: no permitted read or write inside its window is refused, and each read gives the value its signal had when that window opened, as
-- worked out from the defaults and the writes since loading alone.
pub record Demand3 : Type 0 where
  pub loads : LoadsExactly
  pub runs : RunsAsPromised

-- What the words of the demands rest on: that the definitions say what document 01 says.
pub record Ground : Type 0 where
  -- The hyper-period is the least common multiple.
  pub least : (tab : Table) → HyperLeast tab
  -- A value is live exactly while it is needed: in its window, until the next publication, while a reader bound to it is inside its window.
  pub needed : (tab : Table) → LiveWhenNeeded tab
  -- The value of a signal is what the latest publication published, in every hyper-period alike; a refused write changes none.
  pub latest : (tab : Table) → Latest tab
  pub any_round : (tab : Table) → AnyRound tab
  pub refused_nothing : (tab : Table) → RefusedNothing tab
  -- Plan order is by opening tick, then task; the plan takes the lowest free element; with n tasks at most 2n values of a signal are live at one tick.
  pub order : (tab : Table) → PlanOrder tab
  pub lowest : TakesLowest
  pub two_each : (tab : Table) → TwoEach tab
  -- No schedule is longer than 28,802 bytes, and the listing of any table stands whole on every page with room for the longest.
  pub longest : (tab : Table) → LongestSchedule tab
  pub listings : AllListedWhole

pub record Demands : Type 0 where
  pub first : Demand1
  pub second : Demand2
  pub third : Demand3
  pub ground : Ground
