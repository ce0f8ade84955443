-- Document 01, "What comes back": when a state is fit. Assumes nothing.
use Rattle.std.specs.Prelude.{ℕ, ◌+◌, Bool, ◌&&◌, ◌||◌, List, leb, ltb, eqb}
use Rattle.rules.specs.Words.{every}
use Rattle.rules.specs.Table.{most_tasks, most_signals, most_uses, words, longest}
use Rattle.state.specs.Parts.{at, none, cell, loaded, hyper, tick, counts, reads, writes, uses, positions}

-- an element number is inside the block
abbrev pub in_block : ℕ → Bool
in_block p = ltb p words

-- an index of the list of uses, from which `count` uses are inside the list
abbrev pub in_uses : (count first : ℕ) → Bool
in_uses count first = ltb first most_uses && leb (first + count) most_uses

-- no access, or one whose uses are inside the list
abbrev pub access_fits : (count first : ℕ) → Bool
access_fits count first = eqb first none || in_uses count first

-- task t's count is inside the list of uses, and so are the uses of each of its accesses
unfoldable pub task_fits : List ℕ → ℕ → Bool
task_fits n t =
    leb (at n (counts + t)) most_uses
    && every most_signals (λ s. access_fits (at n (counts + t)) (at n (cell reads t s)) && access_fits (at n (counts + t)) (at n (cell writes t s)))

unfoldable pub tasks_fit : List ℕ → Bool
tasks_fit n = every most_tasks (task_fits n)

-- each element number is inside the block: of a use, of an element 0, of what was published last
unfoldable pub positions_fit : List ℕ → Bool
positions_fit n = every positions (λ k. in_block (at n (uses + k)))

-- marked as loaded, the hyper-period 1 to 10,000, the tick below it
abbrev pub running : (loaded hyper tick : ℕ) → Bool
running l h t = eqb l 1 && leb 1 h && leb h longest && ltb t h

-- running, and every count, index and element number is inside the block or list it points into
unfoldable pub fit : List ℕ → Bool
fit n = running (at n loaded) (at n hyper) (at n tick) && (tasks_fit n && positions_fit n)
