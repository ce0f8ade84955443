-- A schedule that passes, its signals' elements one after the other, is sound. Assumes nothing.
use Prim.Native.Nat.{ℕ, ◌+◌, ◌<◌}
use mathlib.Core.Path.{◌≡◌, ◌∙◌}
use mathlib.Core.Logic.{inr}
use native.Mathlib.Omega.{arith}
use Rattle.rules.specs.Words.{up_to}
use Rattle.rules.specs.Windows.{Table, opens, hyper}
use Rattle.rules.specs.Values.{carried, signal_of, bound, Live}
use Rattle.rules.specs.Table.{Fits}
use Rattle.rules.specs.Schedule.{Schedule, room, element_of, base, Passes}
use Rattle.rules.specs.Meaning.{default_of}
use Rattle.rules.specs.Stores.{Memory, get, put}
use Rattle.rules.specs.Machine.{seat, separate}
use Rattle.theory.specs.Places.{Sized, Apart}
use Rattle.theory.specs.Sound.{Sound, PassingSound}
use Rattle.theory.proofs.Tests.{holds}
use Rattle.theory.proofs.Time.{open_true}
use Rattle.theory.proofs.Bound.{value_signal, bound_signal, bound_value, live_writer, live_reader, live_next, live_begins}
use Rattle.theory.proofs.Reading.{publisher_is}
use Rattle.theory.proofs.Sums.{block_lt, block_one}
use Rattle.theory.proofs.Loops.{loop_keeps, loop_turn}
use Rattle.theory.proofs.Memory.{put_sized, put_same, put_other}

module _ (tab : Table) (E : Schedule) (A : Passes tab E) where
  -- every element is inside the block
  pub seat_lt : (s e : ℕ) → s < tab.signals → e < E.count s → base E s + e < room tab
  unfolding base
  seat_lt s e j i = omega (arith, block_lt E.count s e tab.signals j i, A.in_all)

  -- and no two have anything in common
  pub seat_apart : (r s d e : ℕ) → d < E.count r → e < E.count s → (r ≡ s → d ≡ e → ⊥) → Apart (seat E r d) (seat E s e)
  unfolding base
  seat_apart r s d e i j f z = let b = block_one E.count r d s e i j z in f b.0 b.1

  -- ---- filling

  abbrev row : ℕ → Memory → Memory
  row s m = up_to (E.count s) (λ e x. put x (seat E s e) (default_of tab s)) m

  row_sized : (s : ℕ) (m : Memory) → Sized tab m → Sized tab (row s m)
  row_sized s m z = loop_keeps (Sized tab) (E.count s) _ m (λ e x i. put_sized tab x (seat E s e) (default_of tab s)) z

  filled_here : (m : Memory) (s e : ℕ) → Sized tab m → s < tab.signals → e < E.count s → get (up_to tab.signals row m) (seat E s e) ≡ default_of tab s
  filled_here m s e z j i =
      loop_turn (Sized tab) (λ x. get x (seat E s e) ≡ default_of tab s) tab.signals row m s j
      (λ r x h f. row_sized r x)
      (λ x. loop_turn (Sized tab) (λ x. get x (seat E s e) ≡ default_of tab s) (E.count s) _ x e i
      (λ d y h f. put_sized tab y (seat E s d) (default_of tab s))
      (λ y w. put_same tab y (seat E s e) (default_of tab s) w (seat_lt s e j i))
      (λ d y h f w. put_other y (seat E s d) (seat E s e) (default_of tab s) (seat_apart s s d e h i (λ g. f)) ∙ w))
      (λ r x h f. loop_keeps (λ x. get x (seat E s e) ≡ default_of tab s) (E.count r) _ x
      (λ d y g w. put_other y (seat E r d) (seat E s e) (default_of tab r) (seat_apart r s d e g i (λ u v. f u)) ∙ w))
      z

  -- ---- all laws

  separate_sound : Fits tab → Sound tab (separate tab E) (Live tab)
  unfolding separate
  separate_sound F = record {
    earlier = λ v t y p o. (o, omega arith);
    window_live = λ s k i t y o. let b = open_true tab k i t o in inr (live_writer tab F s k i t b.0 b.1);
    winner = λ s k i t y c p. publisher_is tab F s k i t y.0 y.1 y.2 c;
    read_live = λ s k i t j h r n o. let b = open_true tab k i t o in live_reader tab F s k i t j h r n b.0 b.1;
    read_sent = λ s k i j h r n. rw (A.binds s k i j h (holds r) n, bound_signal tab s (opens tab k i));
    carried_live = λ s j c. (omega arith, live_begins tab F (carried s) j);
    last_live = λ s t j c e. rw (← e) (live_next tab F s t j (omega arith));
    last_apart = λ r s i j c d f.
        let v = bound tab s (hyper tab) in
        seat_apart r (signal_of v) 0 (element_of E v) (A.below (carried r) i) (A.below v (bound_value tab F s j (hyper tab) (omega arith))) (λ e g. f (e ∙ bound_signal tab s (hyper tab)));
    seated = λ v t y p. seat_lt (signal_of v) (element_of E v) (value_signal tab v y) (A.below v y);
    apart = λ u v t x y p q f. seat_apart (signal_of u) (signal_of v) (element_of E u) (element_of E v) (A.below u x) (A.below v y) (λ e g. f (A.apart u v t x y e p q g));
    filled_sized = λ m z. loop_keeps (Sized tab) tab.signals row m (λ s x j. row_sized s x) z;
    filled_carried = λ m s j c z. filled_here m s 0 z j (A.below (carried s) j);
  }

pub passing_sound : (tab : Table) → PassingSound tab
passing_sound tab F E A = separate_sound tab E A F
