-- One turn of each loop, and one record, from what the calls in it ensure.
use Rattle.std.specs.Prelude.{Result, Ok}
use Rattle.rules.specs.declared.Refusal.{Refusal}
use mathlib.Core.Path.{◌≡◌, refl, sym, ap, ap₂, ◌∙◌}
use mathlib.Core.Bool.{Bool, true, false, true≢false, ◌&&◌}
use borrow.Author.Tests.{le-leb, eq-eqb, ne_eqb, eqb-true, eqb-false}
use Rattle.theory.proofs.Tests.{split}
use mathlib.Core.Logic.{⊎_elim}
use mathlib.Core.List.{List, [], ◌∷◌}
use Prim.Native.Nat.{ℕ, zero, suc, ◌+◌, ◌*◌, ◌/◌, ◌%◌, ◌≤◌, ◌<◌}
use Rattle.std.proofs.Math.Nat.{mul-le-mul_left}
use native.Mathlib.Nat.{le_refl, eq-or-lt_of_le, le_of_suc-le-suc}
use native.Mathlib.Numerals.{add-one}
use native.Mathlib.Omega.{arith}
use lib.Dec.{eqb}
use borrow.Author.Count.{below_more}
use lib.ListN.{get_or, set, length}
use lib.Seq.{get_or-set_same, get_or-set_other}
use Rattle.rules.specs.Words.{total, times, when}
use Rattle.rules.specs.Fields.{BF, byte_at, mark_at, holds_at}
use Rattle.rules.specs.Table.{longest}
use Rattle.rules.specs.Reading.{Grid}
use Rattle.rules.specs.declared.Side.{Side}
use Rattle.form.specs.declared.forms.Place.{Place}
use Rattle.form.specs.Records.{mark_of, permits, use_of, users_of, users_below, instance_parts}
use Rattle.form.specs.Form.{walked, step, bf_stands, use_stands, instance_stands, use_step}

-- ---- tests and numbers

pub same_eqb : {r t : ℕ} (n : ℕ) → r ≡ t → eqb r n ≡ eqb t n
same_eqb n e = ap (λ x. eqb x n) e

pub all_times : (b : Bool) (n : ℕ) → b ≡ true → n ≡ times b n
all_times true n e = refl
all_times false n e = absurd (true≢false (sym e))

pub no_times : (b : Bool) (n : ℕ) → b ≡ false → 0 ≡ times b n
no_times true n e = absurd (true≢false e)
no_times false n e = refl

times_le : (b : Bool) (n : ℕ) → times b n ≤ n
times_le true n = le_refl n
times_le false n = omega arith

pub users_few : (grid : Grid) (instances : List ℕ) (side : Side) (s k : ℕ) {r : ℕ} → r ≡ users_of grid instances side s k → get_or instances k 0 ≤ longest → r ≤ longest
unfolding users_of
users_few grid instances side s k e l = omega (arith, times_le (permits grid side s k) (get_or instances k 0))

-- one store more in a list that is filled from the front
pub stored_more : (l : List ℕ) (k v : ℕ) (f : ℕ → ℕ) → k < length l → v ≡ f k → ((j : ℕ) → j < k → get_or l j 0 ≡ f j) → (j : ℕ) → j < k + 1 → get_or (set l k v) j 0 ≡ f j
stored_more l k v f h e a =
    below_more (λ j. get_or (set l k v) j 0 ≡ f j) k
    (λ j l'. get_or-set_other l k j v 0 (λ (q : j ≡ k). omega arith) ∙ a j l')
    (get_or-set_same l k v 0 h ∙ e)

-- ---- the fixed bytes of a record that is whole

mark_first : (a b x : Bool) → when a (when b x false) false ≡ ((a && b) && x)
unfolding when
mark_first true true x = refl
mark_first true false x = refl
mark_first false b x = refl

both_when : (a b x : Bool) → when a (when b x false) false ≡ (a && (b && x))
unfolding when
both_when true true x = refl
both_when true false x = refl
both_when false b x = refl

-- where two bytes are a number below 65536
pub two_bytes : (a b i : ℕ) → b < 256 → eqb (a * 256 + b) i ≡ when (eqb a (i / 256)) (eqb b (i % 256)) false
unfolding when
two_bytes a b i h =
    split (eqb a (i / 256))
    (λ p. split (eqb b (i % 256))
    (λ q. rw (p, q) (eq-eqb (a * 256 + b) i (omega (arith, eqb-true a (i / 256) p, eqb-true b (i % 256) q))))
    (λ q. rw (p, q) (ne_eqb (a * 256 + b) i (λ e. eqb-false b (i % 256) q (omega arith)))))
    (λ p. rw p (ne_eqb (a * 256 + b) i (λ e. eqb-false a (i / 256) p (omega arith))))

module _ (bytes : List ℕ) where
  pub bf_marked : (p s : ℕ) → p + 4 ≤ length bytes → bf_stands bytes p s ≡ (mark_at bytes p BF && eqb (byte_at bytes (p + 2)) s)
  unfolding bf_stands mark_at holds_at
  bf_marked p s h = mark_first (eqb (byte_at bytes p) 66) (eqb (byte_at bytes (p + 1)) 70) _ ∙ ap (λ b. (b && (eqb (byte_at bytes p) 66 && eqb (byte_at bytes (p + 1)) 70)) && eqb (byte_at bytes (p + 2)) s) (sym (le-leb (p + 2) (length bytes) (omega arith)))

  pub use_marked : (p : ℕ) (mark : List ℕ) (s k i : ℕ) → p + 7 ≤ length bytes
      → use_stands bytes p mark s k i ≡ (mark_at bytes p mark && (eqb (byte_at bytes (p + 2)) s && (eqb (byte_at bytes (p + 3)) k && instance_stands bytes p i)))
  unfolding use_stands mark_at holds_at
  use_marked p mark s k i h =
      mark_first (eqb (byte_at bytes p) (byte_at mark 0)) (eqb (byte_at bytes (p + 1)) (byte_at mark 1)) _
      ∙ ap₂ (λ (b c : Bool). (b && (eqb (byte_at bytes p) (byte_at mark 0) && eqb (byte_at bytes (p + 1)) (byte_at mark 1))) && c)
      (sym (le-leb (p + 2) (length bytes) (omega arith)))
      (both_when (eqb (byte_at bytes (p + 2)) s) (eqb (byte_at bytes (p + 3)) k) (instance_stands bytes p i))

-- ---- sums

pub total_none : (f : ℕ → ℕ) → 0 ≡ total f 0
unfolding total
total_none f = refl

pub total_turn : (f : ℕ → ℕ) (n : ℕ) {v x r : ℕ} → v ≡ total f n → x ≡ f n → r ≡ v + x → r ≡ total f (n + 1)
unfolding total
total_turn f n e h q = q ∙ ap₂ ◌+◌ e h ∙ ap (total f) (sym (add-one n))

pub total_more : (f : ℕ → ℕ) (n : ℕ) → total f (n + 1) ≡ total f n + f n
unfolding total
total_more f n = ap (total f) (add-one n)

pub total_grows : (f : ℕ → ℕ) (n m : ℕ) → n ≤ m → total f n ≤ total f m
unfolding total
total_grows f n zero h = let e : n ≡ 0 = omega arith in rw e (le_refl 0)
total_grows f n (suc m) h = ⊎_elim (λ e. rw e (le_refl (total f (suc m)))) (λ l. omega (arith, total_grows f n m (le_of_suc-le-suc l))) (eq-or-lt_of_le h)

module _ (grid : Grid) (instances : List ℕ) where
  -- after task k, and never more than all tasks have
  pub users_more : (side : Side) (s k n : ℕ) → k < n
      → (users_below grid instances side s (k + 1) ≡ users_below grid instances side s k + users_of grid instances side s k) × (users_below grid instances side s (k + 1) ≤ users_below grid instances side s n)
  unfolding users_below
  users_more side s k n l = (total_more (users_of grid instances side s) k, total_grows (users_of grid instances side s) (k + 1) n (omega arith))

  pub users_none : (side : Side) (s : ℕ) → users_below grid instances side s 0 ≡ 0
  unfolding users_below total
  users_none side s = refl

  -- one task further, where all of them fit
  pub start_more : (step first top : ℕ) (side : Side) (s k n : ℕ) {r : ℕ} → k < n → r ≡ users_of grid instances side s k → first + step * users_below grid instances side s n ≤ top
      → (first + step * users_below grid instances side s k + step * r ≡ first + step * users_below grid instances side s (k + 1)) × (first + step * users_below grid instances side s (k + 1) ≤ top)
  start_more step first top side s k n l e h =
      let m = users_more side s k n l in
      let more : step * users_below grid instances side s (k + 1) ≤ step * users_below grid instances side s n = mul-le-mul_left step m.1 in
      (rw (e, m.0) (omega arith), omega arith)

-- ---- records

module _ (bytes : List ℕ) where
  -- one instance
  pub use_walked : (side : Side) (s k i : ℕ) (p : Place) {mark : List ℕ} {r x : Result Place Refusal} → mark ≡ mark_of side → r ≡ use_step bytes mark s k i p → r ≡ x
      → x ≡ walked (step bytes) (use_of side s k i ∷ []) (Ok p)
  unfolding walked
  use_walked Side.Writers s k i p e h q = sym q ∙ h ∙ ap (λ m. use_step bytes m s k i p) e
  use_walked Side.Readers s k i p e h q = sym q ∙ h ∙ ap (λ m. use_step bytes m s k i p) e

  -- the instances of one task
  pub task_walked : (grid : Grid) (instances : List ℕ) (side : Side) (s k : ℕ) (p : Place) {n : ℕ} {r x : Result Place Refusal} → n ≡ users_of grid instances side s k
      → r ≡ walked (step bytes) (instance_parts side s k n) (Ok p) → r ≡ x → x ≡ walked (step bytes) (instance_parts side s k (users_of grid instances side s k)) (Ok p)
  task_walked grid instances side s k p e h q = sym q ∙ h ∙ ap (λ n. walked (step bytes) (instance_parts side s k n) (Ok p)) e
