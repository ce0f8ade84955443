-- The hyper-period by Euclid's rule is that of the table, and whether it is above the longest is known as soon as a part's is.
use Rattle.std.specs.Prelude.{Option, Some, None}
use mathlib.Core.Path.{◌≡◌, refl, sym, ap, ◌∙◌}
use Prim.Native.Nat.{ℕ, ◌+◌, ◌≤◌, ◌<◌}
use native.Mathlib.Nat.{le_of_dvd, lt_of_lt_of_le}
use native.Mathlib.Numerals.{add-one}
use Rattle.std.proofs.lemmas.List.{get_or-take}
use lib.Dec.{ltb}
use borrow.Author.Tests.{lt-ltb, le-ltb, ltb-true, ltb-false}
use Rattle.rules.specs.Euclid.{lcm_of}
use Rattle.rules.specs.Words.{when}
use Rattle.rules.specs.Windows.{lcm_all, hyper}
use Rattle.rules.specs.Table.{longest}
use Rattle.rules.specs.Reading.{Grid, task_of, table_of}
use Rattle.rules.specs.declared.Tasks.{Tasks}
use Rattle.rules.specs.declared.Signals.{Signals}
use Rattle.theory.proofs.Tests.{split}
use Rattle.theory.proofs.Hyper.{lcm_law}
use Rattle.windows.specs.Windowed.{AllWindowed}
use Rattle.windows.specs.Forms.{hyper_within, hyper_of}
use Rattle.windows.proofs.Windows.{window, period_pos}

pub within_longest : (h : ℕ) → h ≤ longest → hyper_within h ≡ Some h
unfolding hyper_within when
within_longest h l = rw (le-ltb longest h l)

pub above_longest : (h : ℕ) → longest < h → hyper_within h ≡ None
unfolding hyper_within when
above_longest h l = rw (lt-ltb longest h l)

-- what an answer says
abbrev pub IsHyper : ℕ → Option ℕ → Type 0
IsHyper h (Some r) = (r ≡ h) × (h ≤ longest)
IsHyper h None = longest < h

hyper_within_lem : (h : ℕ) → IsHyper h (hyper_within h)
hyper_within_lem h =
    split (ltb longest h)
    (λ b. let l = ltb-true longest h b in rw (above_longest h l) l)
    (λ b. let l = ltb-false longest h b in rw (within_longest h l) (refl, l))

module _ (tasks : Tasks) where
  -- of the first n tasks
  abbrev pub lcm_first : ℕ → ℕ
  lcm_first n = lcm_all (λ k. (task_of tasks k).period) n

  pub lcm_none : 1 ≡ lcm_first 0
  unfolding lcm_all
  lcm_none = refl

  -- one task more
  pub lcm_turn : (n h r : ℕ) → h ≡ lcm_first n → r ≡ lcm_of h (task_of tasks n).period → r ≡ lcm_first (n + 1)
  unfolding lcm_all
  lcm_turn n h r p q = rw (add-one n) (q ∙ ap (λ (x : ℕ). lcm_of x (task_of tasks n).period) p)

  module _ (w : AllWindowed tasks) where
    pub lcm_pos : (n : ℕ) → n ≤ tasks.count → 0 < lcm_first n
    lcm_pos n l = (lcm_law (λ k. (task_of tasks k).period) n (λ k h. period_pos (task_of tasks k) (w k (lt_of_lt_of_le h l)))).positive

    -- a part's hyper-period is not above the whole's
    lcm_grows : (n : ℕ) → n ≤ tasks.count → lcm_first n ≤ lcm_first tasks.count
    lcm_grows n l =
        let a = lcm_law (λ k. (task_of tasks k).period) n (λ k h. period_pos (task_of tasks k) (w k (lt_of_lt_of_le h l))) in
        let b = lcm_law (λ k. (task_of tasks k).period) tasks.count (λ k h. period_pos (task_of tasks k) (w k h)) in
        le_of_dvd b.positive (a.least (lcm_first tasks.count) (λ k h. b.multiple k (lt_of_lt_of_le h l)))

    pub above_early : (n : ℕ) → n ≤ tasks.count → longest < lcm_first n → hyper_of tasks ≡ None
    unfolding hyper_of
    above_early n l a = above_longest (lcm_first tasks.count) (lt_of_lt_of_le a (lcm_grows n l))

  pub ticks : (h : ℕ) → h ≡ lcm_first tasks.count → h ≤ longest → hyper_of tasks ≡ Some h
  unfolding hyper_of
  ticks h e l = ap hyper_within (sym e) ∙ within_longest h l

  -- the answer is the table's hyper-period, or says that it is above the longest
  pub hyper_is : (signals : Signals) (grid : Grid) → IsHyper (hyper (table_of tasks signals grid)) (hyper_of tasks)
  unfolding hyper_of hyper
  hyper_is signals grid = hyper_within_lem (lcm_first tasks.count)

-- what the check needs of the periods of the first tasks
pub ruleset periods = (window, get_or-take, lcm_none, lcm_turn, lcm_pos, above_early, ticks)
