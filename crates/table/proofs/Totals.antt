-- Sums, and the bounds of what is counted.
use mathlib.Core.Path.{◌≡◌, refl, ap, ap₂, ◌∙◌}
use mathlib.Core.Bool.{Bool, true, false}
use Prim.Native.Nat.{ℕ, zero, suc, ◌+◌, ◌*◌, ◌/◌, ◌≤◌}
use native.Mathlib.Nat.{div-le_self, mul-le-mul, le_trans}
use native.Mathlib.Numerals.{add-one}
use native.Mathlib.Omega.{arith}
use mir.Val.{bool_byte}
use Rattle.rules.specs.Words.{total, bit}
use Rattle.rules.specs.Table.{longest, most_signals}
use Rattle.rules.specs.Reading.{Grid, task_of, reads_in, writes_in}
use Rattle.rules.specs.declared.Tasks.{Tasks}
use Rattle.std.proofs.lemmas.List.{get_or-take}
use Rattle.windows.proofs.Windows.{period_pos}
use Rattle.table.specs.Forms.{accesses_in, uses_in}

module _ (f : ℕ → ℕ) where
  pub total_none : 0 ≡ total f 0
  unfolding total
  total_none = refl

  -- after one turn of a loop
  pub total_turn : (n : ℕ) {sum : ℕ} → sum ≡ total f n → sum + f n ≡ total f (n + 1)
  unfolding total
  total_turn n e = rw (add-one n) (ap (λ (x : ℕ). x + f n) e)

  pub total_bound : (b n : ℕ) → ((k : ℕ) → f k ≤ b) → total f n ≤ b * n
  unfolding total
  total_bound b zero h = omega arith
  total_bound b (suc n) h = omega (arith, total_bound b n h, h n)

bit_bound : (b : Bool) → bit b ≤ 1
bit_bound true = omega arith
bit_bound false = omega arith

sum_bound : (a b : Bool) → bit a + bit b ≤ 2
sum_bound a b = omega (arith, bit_bound a, bit_bound b)

byte_bit : (b : Bool) → bool_byte b ≡ bit b
byte_bit true = refl
byte_bit false = refl

pub rights_bound : (a b : Bool) {x y : ℕ} → x ≡ bool_byte a → y ≡ bool_byte b → x + y ≤ 2
rights_bound a b p q = omega (arith, sum_bound a b, p, q, byte_bit a, byte_bit b)

-- a task has at most two accesses to each signal
pub accesses_bound : (grid : Grid) (k n : ℕ) {a : ℕ} → a ≡ accesses_in grid k n → n ≤ most_signals → a ≤ 2 * most_signals
accesses_bound grid k n e l =
    omega (arith, total_bound (λ s. bit (reads_in grid s k) + bit (writes_in grid s k)) 2 n (λ s. sum_bound (reads_in grid s k) (writes_in grid s k)))

-- what one task adds
pub instances_bound : (h p : ℕ) → h ≤ longest → h / p ≤ longest
instances_bound h p l = le_trans (div-le_self h p) l

pub uses_bound : (x h p : ℕ) → x ≤ 2 * most_signals → h ≤ longest → x * (h / p) ≤ 2 * most_signals * longest
uses_bound x h p b l = mul-le-mul b (instances_bound h p l)

-- one signal more
pub accesses_turn : (grid : Grid) (k n : ℕ) {sum a b : ℕ} {x y : Bool} → sum ≡ accesses_in grid k n → x ≡ reads_in grid n k → a ≡ bool_byte x → y ≡ writes_in grid n k → b ≡ bool_byte y
    → sum + (a + b) ≡ accesses_in grid k (n + 1)
accesses_turn grid k n {sum} {x = x} {y = y} e p a q b =
    ap (λ (z : ℕ). sum + z) (ap₂ ◌+◌ (a ∙ byte_bit x ∙ ap bit p) (b ∙ byte_bit y ∙ ap bit q)) ∙ total_turn (λ s. bit (reads_in grid s k) + bit (writes_in grid s k)) n e

-- one task more
pub uses_turn : (tasks : Tasks) (signals : ℕ) (grid : Grid) (h n : ℕ) {sum a : ℕ} → sum ≡ uses_in tasks signals grid h n → a ≡ accesses_in grid n signals
    → sum + a * (h / (task_of tasks n).period) ≡ uses_in tasks signals grid h (n + 1)
uses_turn tasks signals grid h n {sum} e a =
    ap (λ (z : ℕ). sum + z * (h / (task_of tasks n).period)) a ∙ total_turn (λ k. accesses_in grid k signals * (h / (task_of tasks k).period)) n e

-- what the check needs of each sum
pub ruleset instance_sums = (period_pos, get_or-take, total_none, total_turn, instances_bound)

pub ruleset access_sums = (total_none, total_turn, accesses_turn, rights_bound)

pub ruleset use_sums = (period_pos, total_none, total_turn, uses_turn, accesses_bound, uses_bound)
