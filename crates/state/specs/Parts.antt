-- The parts of the machine's list of numbers: where each begins. A part's number k stands at `part + k`. Assumes nothing.
use Rattle.std.specs.Prelude.{ℕ, ◌+◌, ◌*◌, List, get_or}
use Rattle.rules.specs.Table.{most_tasks, most_signals, most_uses}

-- the number that stands at a place of the list
abbrev pub at : List ℕ → ℕ → ℕ
at n k = get_or n k 0

-- stands for no access, where else the index of its first use stands
abbrev pub none : ℕ
none = 65535

abbrev pub cells : ℕ
cells = most_tasks * most_signals

-- what loading alone writes stands first, what moves with the tick last; marked as loaded is exactly 1
abbrev pub loaded : ℕ
loaded = 0

abbrev pub hyper : ℕ
hyper = loaded + 1

-- each task's window, and how many instances it has
abbrev pub periods : ℕ
periods = hyper + 1

abbrev pub starts : ℕ
starts = periods + most_tasks

abbrev pub ends : ℕ
ends = starts + most_tasks

abbrev pub counts : ℕ
counts = ends + most_tasks

-- for each task and signal, where the uses of the access begin, or none
abbrev pub reads : ℕ
reads = counts + most_tasks

abbrev pub writes : ℕ
writes = reads + cells

-- positions in the store: of each use, of each signal's element 0, of what was published last
abbrev pub uses : ℕ
uses = writes + cells

abbrev pub carried : ℕ
carried = uses + most_uses

abbrev pub held : ℕ
held = carried + most_signals

abbrev pub tick : ℕ
tick = held + most_signals

abbrev pub numbers : ℕ
numbers = tick + 1

-- all positions together
abbrev pub positions : ℕ
positions = most_uses + 2 * most_signals

-- the last of the parts that have a cell for each task and signal
abbrev pub last_kind : ℕ
last_kind = writes

-- where task t's cell for signal s stands in such a part
abbrev pub cell : (kind t s : ℕ) → ℕ
cell kind t s = kind + t * most_signals + s
