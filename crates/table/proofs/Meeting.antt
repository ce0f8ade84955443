-- Two tasks publish at one tick of the hyper-period just where the ends of their windows have the same remainder by the greatest common
-- divisor of their periods.
use mathlib.Core.Path.{◌≡◌, refl, sym, ap, ◌∙◌}
use mathlib.Core.Bool.{true}
use Prim.Native.Nat.{ℕ, ◌+◌, ◌-◌, ◌*◌, ◌/◌, ◌%◌, ◌≤◌, ◌<◌, ◌∣◌}
use native.Mathlib.Nat.{add-mul, sub-add_cancel, le_of_suc-le-suc, div-add-mod', div-mul_cancel, mul-add-mod_self_right, mul_assoc, lt-div-mul-add, div-mul-le_self, lt_of_mul-lt-mul_right, le_of_mul-le-mul_right, le_of_lt, lt_of_not-le}
use native.Mathlib.Decide.{dec_le}
use native.Mathlib.Omega.{arith}
use borrow.Author.Tests.{eq-eqb, eqb-true}
use Rattle.rules.specs.Euclid.{gcd_of}
use Rattle.rules.specs.Windows.{Table, closes, hyper, instances}
use Rattle.theory.proofs.Euclid.{gcd_divides, gcd_pos}
use Rattle.theory.proofs.Hyper.{lcm_law}
use Rattle.euclid.proofs.Bezout.{Over, bezout}
use Rattle.windows.specs.Forms.{task_in}
use Rattle.windows.proofs.Windows.{window, period_pos}
use Rattle.signals.proofs.Standing.{Windows}
use Rattle.table.specs.Forms.{meets}

-- equal remainders: the larger number is the smaller and so many times g
apart_by : (g d e : ℕ) → 0 < g → d ≤ e → d % g ≡ e % g → (m : ℕ) × (d + m * g ≡ e)
apart_by g d e pos l same =
    let k : d / g ≤ e / g = le_of_mul-le-mul_right (omega (arith, div-add-mod' d g, div-add-mod' e g)) pos in
    (e / g - d / g, omega (arith, div-add-mod' d g, div-add-mod' e g, sub_mul k))
  where
    sub_mul : {x y : ℕ} → x ≤ y → (y - x) * g + x * g ≡ y * g
    sub_mul {x} {y} l = sym (add-mul (y - x) x g) ∙ ap (λ (z : ℕ). z * g) (sub-add_cancel l)

-- two instances close together, at any tick
together : (p q d e g : ℕ) → 0 < g → Over p q g → d ≤ e → d % g ≡ e % g → (i : ℕ) × (j : ℕ) × (i * p + d ≡ j * q + e)
together p q d e g pos o l same =
    let a = apart_by g d e pos l same in
    (o.0 * a.0, o.1 * a.0, omega (arith, a.1, ap (λ (z : ℕ). z * a.0) o.2))

-- the same, m hyper-periods earlier
earlier : (p e i m k h c : ℕ) → i * p + e ≡ c → e ≤ p → k * p ≡ h → m * h < c → (i - m * k) * p + e ≡ c - m * h
earlier p e i m k h c at l whole before =
    let le : m * k ≤ i = le_of_suc-le-suc (lt_of_mul-lt-mul_right p (omega (arith, ap (λ (z : ℕ). m * z) whole))) in
    omega (arith, ap (λ (z : ℕ). m * z) whole, sym (add-mul (i - m * k) (m * k) p) ∙ ap (λ (z : ℕ). z * p) (sub-add_cancel le))

-- adding multiples of a multiple of g keeps the remainder
drops : (g i e p : ℕ) → g ∣ p → (i * p + e) % g ≡ e % g
drops g i e p d =
    ap (λ (z : ℕ). (i * z + e) % g) (sym (div-mul_cancel g d)) ∙ ap (λ (z : ℕ). (z + e) % g) (sym (mul_assoc i (p / g) g))
    ∙ mul-add-mod_self_right (i * (p / g)) g e

module _ (tab : Table) (W : Windows tab) where
  pub hyper_pos : 0 < hyper tab
  unfolding hyper
  hyper_pos = (lcm_law tab.period tab.tasks (λ k h. period_pos (task_in tab k) (W k h))).positive

  whole : (k : ℕ) → k < tab.tasks → instances tab k * tab.period k ≡ hyper tab
  unfolding hyper
  whole k h = div-mul_cancel (tab.period k) ((lcm_law tab.period tab.tasks (λ k h. period_pos (task_in tab k) (W k h))).multiple k h)

module _ (tab : Table) (W : Windows tab) (k l : ℕ) (hk : k < tab.tasks) (hl : l < tab.tasks) where
  abbrev common : ℕ
  common = gcd_of (tab.period k) (tab.period l)

  -- instances of the hyper-period that close together
  abbrev pub Meet : Type 0
  Meet = (i : ℕ) × (j : ℕ) × (i < instances tab k) × (j < instances tab l) × (closes tab k i ≡ closes tab l j)

  pub meets_when : (i j : ℕ) → closes tab k i ≡ closes tab l j → meets (task_in tab k) (task_in tab l) ≡ true
  unfolding meets
  meets_when i j e =
      let g = gcd_divides (tab.period k) (tab.period l) in
      eq-eqb (tab.end k % common) (tab.end l % common)
      (sym (drops common i (tab.end k) (tab.period k) g.0) ∙ ap (λ (z : ℕ). z % common) e ∙ drops common j (tab.end l) (tab.period l) g.1)

  within : (i j : ℕ) → closes tab k i ≡ closes tab l j → Meet
  within i j e =
      let (a, b, x) = window (task_in tab k) (W k hk) in
      let (c, d, y) = window (task_in tab l) (W l hl) in
      let t : ℕ = closes tab k i in
      let h : ℕ = hyper tab in
      let m : ℕ = (t - 1) / h in
      let before : m * h < t = omega (arith, div-mul-le_self (t - 1) h) in
      let after : t - 1 < m * h + h = lt-div-mul-add (hyper_pos tab W) in
      let at-k = earlier (tab.period k) (tab.end k) i m (instances tab k) h t refl b (whole tab W k hk) before in
      let at-l = earlier (tab.period l) (tab.end l) j m (instances tab l) h t (sym e) d (whole tab W l hl) before in (
        i - m * instances tab k,
        j - m * instances tab l,
        lt_of_mul-lt-mul_right (tab.period k) (omega (arith, whole tab W k hk)),
        lt_of_mul-lt-mul_right (tab.period l) (omega (arith, whole tab W l hl)),
        at-k ∙ sym at-l,
      )

  pub meets_at : meets (task_in tab k) (task_in tab l) ≡ true → Meet
  unfolding meets
  meets_at e = go (eqb-true (tab.end k % common) (tab.end l % common) e) (dec_le (tab.end k) (tab.end l))
    where
      pos : 0 < common
      pos = gcd_pos (tab.period k) (tab.period l) (period_pos (task_in tab k) (W k hk))

      go : tab.end k % common ≡ tab.end l % common → Dec (tab.end k ≤ tab.end l) → Meet
      go same (yes n) =
          let t = together (tab.period k) (tab.period l) (tab.end k) (tab.end l) common pos ((bezout (tab.period k) (tab.period l)).0 (period_pos (task_in tab k) (W k hk))) n same in
          within t.0 t.1 t.2
      go same (no f) =
          let t = together (tab.period l) (tab.period k) (tab.end l) (tab.end k) common pos ((bezout (tab.period k) (tab.period l)).1 (period_pos (task_in tab l) (W l hl))) (le_of_lt (lt_of_not-le f)) (sym same) in
          within t.1 t.0 (sym t.2)
