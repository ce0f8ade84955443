-- The records put one after the other are the bytes of the schedule, and the bytes after it stay.
use mathlib.Core.Path.{◌≡◌, refl, sym, ap, ap₂, subst, ◌∙◌}
use mathlib.Core.List.{List, [], ◌∷◌, ◌++◌, append_assoc, append-nil}
use Prim.Native.Nat.{ℕ, zero, suc, ◌+◌, ◌*◌, ◌-◌, ◌/◌, ◌≤◌}
use native.Mathlib.Omega.{arith}
use lib.ListN.{length, get_or, take, drop, length-append, length-drop, take-append-drop}
use lib.Seq.{sets, sets-eq, length-sets, length-take-le, take_at, drop-append-add, drop-drop}
use Rattle.rules.specs.Words.{total, bit}
use Rattle.rules.specs.Windows.{Table, lcm_all, hyper}
use Rattle.rules.specs.Table as table
use Rattle.rules.specs.Schedule.{Schedule}
use Rattle.rules.specs.Fields.{EN, WI, RI}
use Rattle.rules.specs.Bytes.{Part, bf, wi, ri, fixed, free, size, parts, size_of, start_of, schedule_length, records_of, bytes_of}
use Rattle.rules.specs.Reading.{Grid, task_of, table_of, writes_in, reads_in}
use Rattle.rules.specs.declared.Tasks.{Tasks}
use Rattle.rules.specs.declared.Signals.{Signals}
use Rattle.theory.proofs.Laid.{Laid, laid}
use Rattle.theory.proofs.Sums as sums
use Rattle.form.specs.Records.{Instances, signal_bytes, parts_in}
use Rattle.form.specs.Form.{walked}
use Rattle.form.proofs.Running.{Within, parts_within}
use Rattle.form.proofs.Tables.{length_is, parts_is}
use Rattle.schedule.specs.Writing.{uses_before, number_of, schedule_of, uses_of, uses_below, Written, bf_put, use_put, put}

-- a run of stores, seen from what stands before it and after it
splice : (p r q : ℕ) (rec out ys : List ℕ) → length rec ≡ r → p + r ≤ q → q ≤ length out → take (p + r) (sets out p rec) ++ ys ++ drop q (sets out p rec) ≡ take p out ++ rec ++ ys ++ drop q out
splice p r q rec out ys e h l =
    ap (λ (o : List ℕ). take (p + r) o ++ ys ++ drop q o) whole
    ∙ ap₂ (λ (a b : List ℕ). a ++ ys ++ b) (take_at (take p out ++ rec) (drop (p + r) out) (p + r) front) behind
  where
    front : length (take p out ++ rec) ≡ p + r
    front = length-append (take p out) rec ∙ ap₂ ◌+◌ (length-take-le p out (omega arith)) e

    whole : sets out p rec ≡ take p out ++ rec ++ drop (p + r) out
    whole = sets-eq rec out p (omega arith) ∙ ap (λ n. take p out ++ rec ++ drop (p + n) out) e

    behind : drop q (take p out ++ rec ++ drop (p + r) out) ≡ drop q out
    behind =
        let z : q ≡ length (take p out ++ rec) + (q - (p + r)) = omega (arith, front) in
        let y : p + r + (q - (p + r)) ≡ q = omega arith in
        ap (λ n. drop n (take p out ++ rec ++ drop (p + r) out)) z ∙ drop-append-add (take p out ++ rec) (drop (p + r) out) (q - (p + r)) ∙ drop-drop (q - (p + r)) (p + r) out ∙ ap (λ n. drop n out) y

module _ (tab : Table) (counts elements : List ℕ) where
  abbrev E : Schedule
  E = schedule_of tab counts elements

  -- ---- places and numbers

  sizes : (n : ℕ) → total (size_of tab) n ≡ 4 * n + 7 * uses_before tab n
  unfolding total size_of uses_before
  sizes zero = refl
  sizes (suc n) = omega (arith, sizes n)

  writer_number : (s k i p n u : ℕ) → start_of tab (wi s k i) ≡ p → suc s ≡ n → p ≡ 4 * n + 7 * u → number_of tab (wi s k i) ≡ u
  unfolding start_of number_of
  writer_number s k i p n u a w e = omega (arith, sizes s)

  reader_number : (s k i p n u : ℕ) → start_of tab (ri s k i) ≡ p → suc s ≡ n → p ≡ 4 * n + 7 * u → number_of tab (ri s k i) ≡ u
  unfolding start_of number_of
  reader_number s k i p n u a w e = omega (arith, sizes s)

  -- ---- one record

  abbrev record_of : Part → List ℕ
  record_of x = fixed x ++ free E x ∷ []

  bf_put_lem : (s n p u : ℕ) (out : List ℕ) → s ≡ n → p ≡ 4 * n + 7 * u → bf_put out (4 * s + 7 * u) s (get_or counts s 0) ≡ sets out p (record_of (bf s))
  unfolding bf_put
  bf_put_lem s n p u out w e = let z : 4 * s + 7 * u ≡ p = omega arith in ap (λ m. sets out m (record_of (bf s))) z

  wi_put : (s k i n p u : ℕ) (out : List ℕ) → start_of tab (wi s k i) ≡ p → suc s ≡ n → p ≡ 4 * n + 7 * u → use_put out (4 * (s + 1) + 7 * u) WI s k i (get_or elements u 0) ≡ sets out p (record_of (wi s k i))
  unfolding use_put
  wi_put s k i n p u out a w e =
      let z : 4 * (s + 1) + 7 * u ≡ p = omega arith in
      ap₂ (λ (m : ℕ) (b : ℕ). sets out m (fixed (wi s k i) ++ b ∷ [])) z (ap (λ m. get_or elements m 0) (sym (writer_number s k i p n u a w e)))

  ri_put : (s k i n p u : ℕ) (out : List ℕ) → start_of tab (ri s k i) ≡ p → suc s ≡ n → p ≡ 4 * n + 7 * u → use_put out (4 * (s + 1) + 7 * u) RI s k i (get_or elements u 0) ≡ sets out p (record_of (ri s k i))
  unfolding use_put
  ri_put s k i n p u out a w e =
      let z : 4 * (s + 1) + 7 * u ≡ p = omega arith in
      ap₂ (λ (m : ℕ) (b : ℕ). sets out m (fixed (ri s k i) ++ b ∷ [])) z (ap (λ m. get_or elements m 0) (sym (reader_number s k i p n u a w e)))

  -- ---- all records

  body : List Part → List ℕ
  body [] = []
  body (x ∷ xs) = record_of x ++ body xs

  laid_le : (p q : ℕ) (xs : List Part) → Laid tab p xs q → p + length (body xs) ≡ q
  unfolding body
  laid_le p q [] a = omega arith
  laid_le p q (x ∷ xs) a = omega (arith, laid_le (p + size x) q xs a.1, length-append (record_of x) (body xs), length-append (fixed x) (free E x ∷ []))

  body_bytes : (xs : List Part) → records_of tab E xs ≡ body xs ++ EN
  unfolding records_of body
  body_bytes [] = refl
  body_bytes (x ∷ xs) = ap (λ (r : List ℕ). fixed x ++ free E x ∷ r) (body_bytes xs) ∙ sym (append_assoc (fixed x) (free E x ∷ []) (body xs ++ EN)) ∙ sym (append_assoc (record_of x) (body xs) EN)

  -- what is before and after stays, and the records stand between
  Put : List Part → ℕ → ℕ → List ℕ → ℕ → Type 0
  Put xs p q out u = (walked (put counts elements) xs (record { out = out; used = u })).out ≡ take p out ++ body xs ++ drop q out

  module _ (x : Part) (xs : List Part) (p q v : ℕ) (out next : List ℕ) (a : Laid tab (p + size x) xs q) (l : q ≤ length out) (e : next ≡ sets out p (record_of x)) where
    one_more : (length next ≡ length out → Put xs (p + size x) q next v) → (walked (put counts elements) xs (record { out = next; used = v })).out ≡ take p out ++ body (x ∷ xs) ++ drop q out
    unfolding Put body
    one_more rest =
        rest (ap length e ∙ length-sets out p (record_of x))
        ∙ ap (λ (o : List ℕ). take (p + size x) o ++ body xs ++ drop q o) e
        ∙ splice p (size x) q (record_of x) out (body xs) (length-append (fixed x) (free E x ∷ [])) (omega (arith, laid_le (p + size x) q xs a)) l
        ∙ ap (λ (r : List ℕ). r ++ drop q out) (append_assoc (take p out) (record_of x) (body xs))

  wrote : (xs : List Part) (p q n m u : ℕ) (out : List ℕ) → Laid tab p xs q → Within n xs m → p ≡ 4 * n + 7 * u → q ≤ length out → Put xs p q out u
  unfolding Put walked body
  wrote [] p q n m u out a w e l = sym (ap (λ (r : List ℕ). r ++ drop q out) (append-nil (take p out)) ∙ ap (λ n. take p out ++ drop n out) (sym a) ∙ take-append-drop p out)
  wrote (bf s ∷ xs) p q n m u out a w e l =
      one_more (bf s) xs p q u out _ a.1 l (bf_put_lem s n p u out w.0 e) (λ z. wrote xs (p + 4) q (suc n) m u _ a.1 w.1 (omega arith) (omega arith))
  wrote (wi s k i ∷ xs) p q n m u out a w e l =
      one_more (wi s k i) xs p q (u + 1) out _ a.1 l (wi_put s k i n p u out a.0 w.0 e) (λ z. wrote xs (p + 7) q n m (u + 1) _ a.1 w.1 (omega arith) (omega arith))
  wrote (ri s k i ∷ xs) p q n m u out a w e l =
      one_more (ri s k i) xs p q (u + 1) out _ a.1 l (ri_put s k i n p u out a.0 w.0 e) (λ z. wrote xs (p + 7) q n m (u + 1) _ a.1 w.1 (omega arith) (omega arith))

  -- with EN after them they are the whole schedule
  pub written : (out last : List ℕ) (w : Written) (p : ℕ) → Within 0 (parts tab) tab.signals → schedule_length tab ≤ length out → w ≡ walked (put counts elements) (parts tab) (record { out = out; used = 0 })
      → p + 2 ≡ schedule_length tab → last ≡ sets w.out p EN → last ≡ bytes_of tab E ++ drop (schedule_length tab) out
  unfolding bytes_of schedule_length Put
  written out last w p h l e z f =
      let q : ℕ = total (size_of tab) tab.signals in
      let b : List ℕ = body (parts tab) in
      let n : length b ≡ q = omega (arith, laid_le 0 q (parts tab) (laid tab)) in
      let y : p ≡ q = omega arith in
      let g : w.out ≡ b ++ drop q out = ap (λ (v : Written). v.out) e ∙ wrote (parts tab) 0 q 0 tab.signals 0 out (laid tab) h refl (omega arith) in
      f ∙ ap₂ (λ (o : List ℕ) (m : ℕ). sets o m EN) g y
      ∙ sets-eq EN (b ++ drop q out) q (omega (arith, length-append b (drop q out), length-drop q out))
      ∙ ap₂ (λ (c d : List ℕ). c ++ EN ++ d) (take_at b (drop q out) q n) (ap (λ m. drop (m + 2) (b ++ drop q out)) (sym n) ∙ drop-append-add b (drop q out) 2 ∙ drop-drop 2 q out)
      ∙ ap (λ (r : List ℕ). r ++ drop (q + 2) out) (sym (body_bytes (parts tab)))

-- ---- the same from what the code has of the table

module _ (grid : Grid) (instances : List ℕ) (tasks : ℕ) where
  code_sizes : (n : ℕ) → total (signal_bytes grid instances tasks) n ≡ 4 * n + 7 * uses_below grid instances tasks n
  unfolding total signal_bytes uses_below uses_of
  code_sizes zero = refl
  code_sizes (suc n) = omega (arith, code_sizes n)

module _ (tasks : Tasks) (S : Signals) (grid : Grid) (h : ℕ) (instances : List ℕ) (e : h ≡ lcm_all (λ k. (task_of tasks k).period) tasks.count) (I : Instances tasks h instances) (n : ℕ) (q : S.count ≡ n) where
  pub length_by_uses : 4 * n + 7 * uses_below grid instances tasks.count n + 2 ≡ schedule_length (table_of tasks S grid)
  length_by_uses = ap (λ x. x + 2) (sym (code_sizes grid instances tasks.count n)) ∙ length_is tasks S grid h instances e I n q

  pub uses_is : uses_below grid instances tasks.count n ≡ table.uses (table_of tasks S grid)
  uses_is = omega (arith, length_by_uses, sums.length_is (table_of tasks S grid))

  pub written_is : (counts elements out last : List ℕ) (w : Written) (p : ℕ) {g : Grid} {t : ℕ} → g ≡ grid → t ≡ tasks.count → schedule_length (table_of tasks S grid) ≤ length out
      → w ≡ walked (put counts elements) (parts_in g instances t n) (record { out = out; used = 0 }) → p ≡ 4 * n + 7 * uses_below g instances t n → last ≡ sets w.out p EN
      → last ≡ bytes_of (table_of tasks S grid) (schedule_of (table_of tasks S grid) counts elements) ++ drop (schedule_length (table_of tasks S grid)) out
  written_is counts elements out last w p {g} {t} u v l d z f =
      let same = ap₂ (λ g t. parts_in g instances t n) u v ∙ parts_is tasks S grid h instances e I n q in
      written (table_of tasks S grid) counts elements out last w p
      (subst (λ xs. Within 0 xs S.count) same (subst (λ m. Within 0 (parts_in g instances t n) m) (sym q) (parts_within g instances t n)))
      l (d ∙ ap (λ xs. walked (put counts elements) xs (record { out = out; used = 0 })) same) (omega (arith, length_by_uses, z, ap₂ (λ g t. uses_below g instances t n) u v)) f
