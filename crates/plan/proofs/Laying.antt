-- The numbers of the uses, as the code counts them, are those of the table's definitions; each signal in turn. Assumes nothing.
use mathlib.Core.List.{List}
use mathlib.Core.Path.{◌≡◌, refl, sym, ap, subst, ◌∙◌}
use Prim.Native.Nat.{ℕ, zero, suc, ◌+◌, ◌≤◌, ◌<◌}
use native.Mathlib.Numerals.{add-one}
use native.Mathlib.Omega.{arith}
use lib.ListN.{length, get_or, set, take}
use lib.Seq.{take_at}
use Rattle.std.specs.List.{sum}
use Rattle.std.proofs.lemmas.List.Sums.{sum_by_more}
use Rattle.rules.specs.Words.{total}
use Rattle.rules.specs.Windows.{Table, lcm_all, hyper}
use Rattle.rules.specs.Table.{most_uses}
use Rattle.rules.specs.Bytes.{writers_below, readers_below}
use Rattle.rules.specs.Reading.{Grid, table_of, task_of, no_signals}
use Rattle.rules.specs.declared.Tasks.{Tasks}
use Rattle.rules.specs.declared.Signals.{Signals}
use Rattle.theory.specs.Chosen.{first_use, chosen}
use Rattle.theory.proofs.Chosen.{first_next, first_upto, first_all}
use Rattle.theory.specs.Sweep as sweep
use Rattle.accept.specs.Accepts.{its_table}
use Rattle.accept.specs.declared.Accepted.{Accepted}
use Rattle.events.specs.Order.{tasks_table, ordered}
use Rattle.events.specs.declared.Events.{Events}
use Rattle.rules.specs.declared.Side.{Side}
use Rattle.form.specs.Records.{Instances, users_below}
use Rattle.form.proofs.Parted.{by_periods}
use Rattle.form.proofs.Tables.{writers_is, readers_is}
use Rattle.elements.specs.Pass.{pass_table}
use Rattle.elements.specs.Pass as pass
use Rattle.plan.specs.Uses.{Numbered, users_in, uses_planned, counts_planned}
use Rattle.elements.specs.declared.pass.Numbers.{Numbers}

-- the sum of the first n numbers of a list
pub total_sum : (xs : List ℕ) (n : ℕ) → n ≤ length xs → sum (take n xs) ≡ total (λ s. get_or xs s 0) n
unfolding total
total_sum xs zero h = refl
total_sum xs (suc n) h = ap (λ m. sum (take m xs)) (sym (add-one n)) ∙ sum_by_more (λ x. x) xs n 0 h ∙ ap (λ m. m + get_or xs n 0) (total_sum xs n (omega arith))

-- the places that are in use
pub listed : (tab : Table) (e : Events) {list : List ℕ} → e ≡ ordered tab → list ≡ take e.count e.list → list ≡ sweep.events tab
listed tab e q l = l ∙ ap (λ (e : Events). take e.count e.list) q ∙ take_at (sweep.events tab) _ (length (sweep.events tab)) refl

pub first_none : (tab : Table) → 0 ≡ first_use tab 0
unfolding first_use total
first_none tab = refl

-- the pass does not look at the number of signals
pub same_first : (tasks : Tasks) (S : Signals) (grid : Grid) (s : ℕ) → first_use (pass_table tasks grid) s ≡ first_use (table_of tasks S grid) s
unfolding first_use writers_below readers_below hyper
same_first tasks S grid s = refl

module _ (a : Accepted) where
  abbrev tab : Table
  tab = pass_table a.tasks a.grid

  -- there is room for all uses
  room : first_use tab a.signals.count ≤ most_uses
  room = omega (arith, same_first a.tasks a.signals a.grid a.signals.count, first_all (its_table a) a.fits)

  own : a.hyper ≡ lcm_all (λ k. (task_of a.tasks k).period) a.tasks.count
  own = by_periods a.tasks a.signals a.grid a.own

  module _ (instances : List ℕ) (I : Instances a.tasks a.hyper instances) where
    writers_are : (s n : ℕ) → n ≤ a.tasks.count → users_below a.grid instances Side.Writers s n ≡ writers_below tab s n
    writers_are = writers_is a.tasks no_signals a.grid a.hyper instances own I

    readers_are : (s n : ℕ) → n ≤ a.tasks.count → users_below a.grid instances Side.Readers s n ≡ readers_below tab s n
    readers_are = readers_is a.tasks no_signals a.grid a.hyper instances own I

    -- the uses of signal s have places
    pub first_more : (s : ℕ) {g : Grid} {t : ℕ} → g ≡ a.grid → t ≡ a.tasks.count → s < a.signals.count → (first_use tab s + users_in g instances s t ≡ first_use tab (suc s)) × (first_use tab (suc s) ≤ most_uses)
    first_more s u v l =
        rw (u, v) (
          omega (arith, first_next tab s, writers_are s a.tasks.count (omega arith), readers_are s a.tasks.count (omega arith)),
          omega (arith, first_upto tab (suc s) a.signals.count l, room),
        )

    pub pass_ready : (s first : ℕ) (numbers : Numbers) (events : List ℕ) {g : Grid} {t : ℕ} → g ≡ a.grid → t ≡ a.tasks.count → s < a.signals.count → first ≡ first_use tab s → Numbered g instances s first t numbers
        → events ≡ sweep.events (tasks_table a.tasks) → pass.Ready a s events numbers
    pass_ready s first numbers events {g} {t} u v l e N q =
        let M : Numbered a.grid instances s first a.tasks.count numbers = subst (λ g. Numbered g instances s first a.tasks.count numbers) u (subst (λ t. Numbered g instances s first t numbers) v N) in
        record {
          signal = omega (arith, l, a.fits.few_signals);
          events = q;
          writers = λ k m. omega (arith, M.writers k m, writers_are s k (omega arith));
          readers = λ k m. omega (arith, M.readers k m, readers_are s k (omega arith), writers_are s a.tasks.count (omega arith));
          room = (first_more s refl refl l).1;
        }

-- one signal more
pub counts_turn : (tab : Table) (c₀ u₀ counts uses : List ℕ) (s r : ℕ) → counts ≡ counts_planned tab c₀ u₀ s → uses ≡ uses_planned tab u₀ s → r ≡ (chosen tab s uses).count → set counts s r ≡ counts_planned tab c₀ u₀ (s + 1)
unfolding counts_planned
counts_turn tab c₀ u₀ counts uses s r a b e = rw (add-one s, e, a, b)

pub uses_turn : (tab : Table) (u₀ uses after : List ℕ) (s : ℕ) → uses ≡ uses_planned tab u₀ s → after ≡ (chosen tab s uses).uses → after ≡ uses_planned tab u₀ (s + 1)
unfolding uses_planned
uses_turn tab u₀ uses after s b e = rw (add-one s, e, b)
