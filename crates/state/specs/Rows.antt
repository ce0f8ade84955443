-- Document 01, "The machine", over the list of its numbers. Past the end of a part's list 0 stands and nothing is stored; a fit state never leads there.
-- Assumes nothing.
use Rattle.std.specs.Prelude.{ℕ, ◌+◌, ◌/◌, ◌%◌, Bool, not, ◌&&◌, cond, List, leb, ltb, eqb, get_or, set, Option, Some, None, Result, Ok, Err}
use Rattle.rules.specs.Words.{when, up_to}
use Rattle.rules.specs.Table.{most_tasks, most_signals, most_uses, words}
use Rattle.state.specs.Parts.{at, none, cell, hyper, tick, periods, starts, ends, counts, writes, uses, carried, held}
use Rattle.rules.specs.declared.Refusal.{Refusal}
use Rattle.state.specs.declared.Window.{Window}

-- ---- a task's instance at the tick

-- how far the tick is into its period
abbrev pub phase_of : (period tick : ℕ) → ℕ
phase_of p t = cond (eqb p 0) 0 (t % p)

-- the instance whose period the tick lies in, if the test holds; a task of period 0 has none, and none has one past its count
unfoldable pub instance_if : Bool → (period count tick : ℕ) → Option ℕ
instance_if test p c t =
    when (not test) None
    (when (eqb p 0) None
    (when (leb c (t / p)) None
    (Some (t / p))))

module _ (n : List ℕ) (t : ℕ) where
  -- its window, and how many instances it has
  abbrev pub window_of : Window
  window_of = record { period = at n (periods + t); start = at n (starts + t); end = at n (ends + t); count = at n (counts + t) }

  -- how far task t is into its period now
  abbrev pub phase_now : ℕ
  phase_now = phase_of (at n (periods + t)) (at n tick)

  -- its instance now, if the test holds
  abbrev pub now_if : Bool → Option ℕ
  now_if test = instance_if test (at n (periods + t)) (at n (counts + t)) (at n tick)

  -- the instance that opens now, that closes at the next tick, that is inside its window now
  unfoldable pub opening_of : Option ℕ
  opening_of = now_if (eqb phase_now (at n (starts + t)))

  unfoldable pub closing_of : Option ℕ
  closing_of = now_if (eqb (phase_now + 1) (at n (ends + t)))

  unfoldable pub inside_of : Option ℕ
  inside_of = now_if (leb (at n (starts + t)) phase_now && ltb phase_now (at n (ends + t)))

-- ---- a word of the store

unfoldable pub load : List ℕ → ℕ → ℕ
load store p = cond (ltb p words) (get_or store p 0) 0

unfoldable pub save : List ℕ → ℕ → ℕ → List ℕ
save store p w = cond (ltb p words) (set store p w) store

-- ---- one signal

-- task t does not have this kind of access to signal s
abbrev pub lacks : List ℕ → (kind t s : ℕ) → Bool
lacks n kind t s = eqb (at n (cell kind t s)) none

-- where instance i of task t has signal s
unfoldable pub use_of : List ℕ → (kind t i s : ℕ) → ℕ
use_of n kind t i s = cond (ltb (at n (cell kind t s) + i) most_uses) (at n (uses + (at n (cell kind t s) + i))) 0

-- closing: the signal is held where the instance has it
unfoldable pub publish_one : (t i s : ℕ) → List ℕ → List ℕ
publish_one t i s n = cond (lacks n writes t s) n (set n (held + s) (use_of n writes t i s))

-- the instance's element is set to the signal's word
unfoldable pub fill_one : (n words : List ℕ) → (t i s : ℕ) → List ℕ → List ℕ
fill_one n ws t i s store = cond (lacks n writes t s) store (save store (use_of n writes t i s) (get_or ws s 0))

-- at H: what is held is copied to the signal's element 0, and element 0 is held
unfoldable pub carry_one : List ℕ → (s : ℕ) → List ℕ → List ℕ
carry_one n s store = save store (at n (carried + s)) (load store (at n (held + s)))

unfoldable pub release_one : (s : ℕ) → List ℕ → List ℕ
release_one s n = set n (held + s) (at n (carried + s))

-- ---- all signals, all tasks

-- for every signal, at the instance if there is one
abbrev pub at_instance : (ℕ → ℕ → List ℕ → List ℕ) → Option ℕ → List ℕ → List ℕ
at_instance f (Some i) a = up_to most_signals (f i) a
at_instance f None a = a

-- the numbers after the closings of the next tick
unfoldable pub published : List ℕ → List ℕ
published = up_to most_tasks (λ t n. at_instance (publish_one t) (closing_of n t) n)

-- the elements of the instances that the test names, each set to the word of its signal
abbrev pub fill : (test : ℕ → Option ℕ) → (n words store : List ℕ) → List ℕ
fill test n ws = up_to most_tasks (λ t. at_instance (fill_one n ws t) (test t))

-- the store after the openings of the tick
unfoldable pub openings : (n defaults store : List ℕ) → List ℕ
openings n = fill (opening_of n) n

-- the store after the copies at H, and the numbers after them
unfoldable pub copies : (n store : List ℕ) → List ℕ
copies n = up_to most_signals (carry_one n)

unfoldable pub released : List ℕ → List ℕ
released = up_to most_signals release_one

-- The lists that a step changes.
pub record Lists : Type 0 where
  pub numbers : List ℕ
  pub store : List ℕ

abbrev pub lists : (numbers store : List ℕ) → Lists
lists n s = record { numbers = n; store = s }

-- the next tick; at H the copies, and the tick becomes 0
unfoldable pub advanced : (n store : List ℕ) → Lists
advanced n store = cond (ltb (at n tick + 1) (at n hyper)) (lists (set n tick (at n tick + 1)) store) (lists (set (released n) tick 0) (copies n store))

-- ---- an access

-- where the open instance has the signal, and outside where none is open
abbrev pub where_open : List ℕ → (kind t s : ℕ) → Option ℕ → Result ℕ Refusal
where_open n kind t s (Some i) = Ok (use_of n kind t i s)
where_open n kind t s None = Err Refusal.Outside

-- where task t finds signal s now
unfoldable pub place_of : List ℕ → (kind t s : ℕ) → Result ℕ Refusal
place_of n kind t s =
    when (leb most_tasks t) (Err Refusal.NoAccess)
    (when (leb most_signals s) (Err Refusal.NoAccess)
    (when (lacks n kind t s) (Err Refusal.NoAccess)
    (where_open n kind t s (inside_of n t))))
