-- What the machine asks of a layout and of the lives of the values: nothing else of them is used. Assumes nothing.
use Rattle.std.specs.Prelude.{ℕ, suc, ◌≤◌, ◌<◌, ◌≡◌, true, List, [], ◌⊎◌}
use Rattle.std.proofs.Math.Option.{some}
use Rattle.rules.specs.Windows.{Table, opens, closes, is_open, instances, hyper}
use Rattle.rules.specs.Values.{Value, carried, by, publisher, bound, opening, Live, IsValue}
use Rattle.rules.specs.Table.{Fits}
use Rattle.rules.specs.Schedule.{Schedule, Passes}
use Rattle.rules.specs.Meaning.{Call, default_of, meaning}
use Rattle.rules.specs.Stores.{Memory, nowhere, get}
use Rattle.rules.specs.Machine.{Layout, separate, loaded, answers}
use Rattle.theory.specs.Places.{Sized, Inside, Apart}

-- the carried value of signal s has a place
abbrev pub Carries : Layout → ℕ → Type 0
Carries L s = L.place (carried s) ≡ nowhere → ⊥

pub record Sound (tab : Table) (L : Layout) (Live : Value → ℕ → Type 0) : Type 0 where
  -- a life has no gap after the opening
  pub earlier : (v : Value) (t : ℕ) → IsValue tab v → Live v (suc t) → opening tab v ≤ t → Live v t
  -- a window is live throughout, or its value stands nowhere
  pub window_live : (s k i t : ℕ) → IsValue tab (by s k i) → is_open tab k i t ≡ true → (L.place (by s k i) ≡ nowhere) ⊎ Live (by s k i) t
  -- what is live at its closing is what was published there
  pub winner : (s k i t : ℕ) → IsValue tab (by s k i) → closes tab k i ≡ suc t → Live (by s k i) (suc t) → publisher tab s t ≡ some k
  -- what a reader is bound to is live in all its window, and the reader is sent there
  pub read_live : (s k i t : ℕ) → s < tab.signals → k < tab.tasks → tab.reads s k ≡ true → i < instances tab k → is_open tab k i t ≡ true → Live (bound tab s (opens tab k i)) t
  pub read_sent : (s k i : ℕ) → s < tab.signals → k < tab.tasks → tab.reads s k ≡ true → i < instances tab k → L.sent s k i ≡ L.place (bound tab s (opens tab k i))
  -- where the carried value has a place it is live at first, and so is at the end what becomes the carried value, which no other signal's copy reaches
  pub carried_live : (s : ℕ) → s < tab.signals → Carries L s → Live (carried s) 0
  pub last_live : (s t : ℕ) → s < tab.signals → Carries L s → suc t ≡ hyper tab → Live (bound tab s (hyper tab)) t
  pub last_apart : (r s : ℕ) → r < tab.signals → s < tab.signals → Carries L r → Carries L s → (r ≡ s → ⊥) → Apart (L.place (carried r)) (L.place (bound tab s (hyper tab)))
  -- what is live has a place, and no two live values have anything in common
  pub seated : (v : Value) (t : ℕ) → IsValue tab v → Live v t → Inside tab (L.place v)
  pub apart : (u v : Value) (t : ℕ) → IsValue tab u → IsValue tab v → Live u t → Live v t → (u ≡ v → ⊥) → Apart (L.place u) (L.place v)
  -- filling leaves the size, and the default where a carried value stands
  pub filled_sized : (m : Memory) → Sized tab m → Sized tab (L.filled m)
  pub filled_carried : (m : Memory) (s : ℕ) → s < tab.signals → Carries L s → Sized tab m → get (L.filled m) (L.place (carried s)) ≡ default_of tab s

-- With any table that fits and any sound layout, the machine answers any calls as they are meant.
abbrev pub MachineAsMeant : Type 1
MachineAsMeant = (tab : Table) → Fits tab → (L : Layout) (Live : Value → ℕ → Type 0) → Sound tab L Live → (cs : List Call) → answers tab L (loaded tab L) cs ≡ meaning tab [] cs

-- A schedule that passes, its signals' elements one after the other, is sound.
abbrev pub PassingSound : Table → Type 0
PassingSound tab = Fits tab → (E : Schedule) → Passes tab E → Sound tab (separate tab E) (Live tab)
