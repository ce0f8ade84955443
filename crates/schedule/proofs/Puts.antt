-- One record put: its stores are one run of bytes, and it is one step of the walk.
use mathlib.Core.Path.{◌≡◌, refl, sym, ap, ◌∙◌}
use mathlib.Core.Logic.{⊎_elim}
use mathlib.Core.List.{List, [], ◌∷◌, ◌++◌, append_assoc}
use Prim.Native.Nat.{ℕ, zero, suc, ◌+◌, ◌*◌, ◌-◌, ◌≤◌, ◌<◌}
use native.Mathlib.Numerals.{add-one}
use native.Mathlib.Nat.{le_refl, eq-or-lt_of_le, le_of_suc-le-suc}
use native.Mathlib.Omega.{arith}
use lib.ListN.{length, get_or, take, drop, length-set}
use lib.Seq.{sets, sets-eq, drop-drop}
use Rattle.rules.specs.Words.{total}
use Rattle.rules.specs.Fields.{WI, RI}
use Rattle.rules.specs.Bytes.{bf}
use Rattle.rules.specs.Reading.{Grid}
use Rattle.rules.specs.declared.Side.{Side}
use Rattle.form.specs.Records.{mark_of, use_of, users_of, users_below, instance_parts}
use Rattle.form.specs.Form.{walked}
use Rattle.form.proofs.Steps.{total_more, total_grows}
use Rattle.schedule.specs.Writing.{Written, bf_put, use_put, put, uses_of, uses_below}

-- ---- bytes copied to their place are a run of stores

pub copied : (l run mid : List ℕ) (p : ℕ) → mid ≡ run → p + length run ≤ length l → take p l ++ (mid ++ drop (p + length run - p) (drop p l)) ≡ sets l p run
copied l run mid p e h =
    let n : p + (p + length run - p) ≡ p + length run = omega arith in
    ap (λ (m : List ℕ). take p l ++ (m ++ drop (p + length run - p) (drop p l))) e
    ∙ sym (append_assoc (take p l) run (drop (p + length run - p) (drop p l)))
    ∙ ap (λ (r : List ℕ). take p l ++ run ++ r) (drop-drop (p + length run - p) p l ∙ ap (λ n. drop n l) n)
    ∙ sym (sets-eq run l p h)

-- ---- stores keep the length

pub use_length : (l : List ℕ) (p : ℕ) (mark : List ℕ) (s k i e : ℕ) {out : List ℕ} → out ≡ use_put l p mark s k i e → length out ≡ length l
unfolding use_put
use_length l p mark s k i e h = ap length h ∙ simp length-set

-- ---- steps of the walk

module _ (counts elements : List ℕ) where
  pub use_put_lem : (side : Side) (s k i : ℕ) (w : Written) {mark : List ℕ} {p : ℕ} {out : List ℕ} → mark ≡ mark_of side → p ≡ 4 * (s + 1) + 7 * w.used
      → out ≡ use_put w.out p mark s k i (get_or elements w.used 0) → record { out = out; used = w.used + 1 } ≡ walked (put counts elements) (use_of side s k i ∷ []) w
  unfolding walked
  use_put_lem Side.Writers s k i w {mark} {p} e q h = ap (λ (o : List ℕ). record { out = o; used = w.used + 1 }) (h ∙ ap (λ m. use_put w.out p m s k i (get_or elements w.used 0)) e ∙ ap (λ n. use_put w.out n WI s k i (get_or elements w.used 0)) q)
  use_put_lem Side.Readers s k i w {mark} {p} e q h = ap (λ (o : List ℕ). record { out = o; used = w.used + 1 }) (h ∙ ap (λ m. use_put w.out p m s k i (get_or elements w.used 0)) e ∙ ap (λ n. use_put w.out n RI s k i (get_or elements w.used 0)) q)

  pub bf_put_lem : (s : ℕ) (w : Written) {p : ℕ} {out : List ℕ} → p ≡ 4 * s + 7 * w.used → out ≡ bf_put w.out p s (get_or counts s 0)
      → record { out = out; used = w.used } ≡ walked (put counts elements) (bf s ∷ []) w
  unfolding walked
  bf_put_lem s w q h = ap (λ (o : List ℕ). record { out = o; used = w.used }) (h ∙ ap (λ n. bf_put w.out n s (get_or counts s 0)) q)

-- ---- how many

module _ (grid : Grid) (instances : List ℕ) where
  -- after signal s, and never more than all signals have
  pub uses_more : (tasks s n : ℕ) → s < n
      → (uses_below grid instances tasks (s + 1) ≡ uses_below grid instances tasks s + uses_of grid instances tasks s) × (uses_below grid instances tasks (s + 1) ≤ uses_below grid instances tasks n)
  unfolding uses_below
  uses_more tasks s n l = (total_more (uses_of grid instances tasks) s, total_grows (uses_of grid instances tasks) (s + 1) n (omega arith))

  pub uses_none : (tasks : ℕ) → uses_below grid instances tasks 0 ≡ 0
  unfolding uses_below total
  uses_none tasks = refl

-- the instances of one task
pub task_put : (grid : Grid) (instances counts elements : List ℕ) (side : Side) (s k : ℕ) (w : Written) {n : ℕ} {v : Written} → n ≡ users_of grid instances side s k
    → v ≡ walked (put counts elements) (instance_parts side s k n) w → v ≡ walked (put counts elements) (instance_parts side s k (users_of grid instances side s k)) w
task_put grid instances counts elements side s k w e h = h ∙ ap (λ n. walked (put counts elements) (instance_parts side s k n) w) e
