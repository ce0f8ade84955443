-- The walk at a running place says what document 01's tests of records at their computed places say.
use Rattle.std.specs.Prelude.{Result, Ok, Err}
use mathlib.Core.Path.{◌≡◌, refl, sym, ap, ap₂, subst, ◌∙◌}
use mathlib.Core.Bool.{Bool, true, false, not, ◌&&◌}
use mathlib.Core.List.{List, [], ◌∷◌}
use Prim.Native.Nat.{ℕ, suc, ◌+◌, ◌/◌, ◌%◌}
use native.Mathlib.Nat.{add-suc, suc_inj}
use native.Mathlib.Numerals.{add-one}
use native.Mathlib.Omega.{arith}
use lib.Dec.{leb, ltb, eqb}
use lib.ListN.{length}
use borrow.Author.Tests.{not-false, leb-true, leb-false, lt-ltb, le-ltb}
use Rattle.rules.specs.Words.{total, when}
use Rattle.rules.specs.Windows.{Table, lcm_all}
use Rattle.rules.specs.Schedule.{Schedule, room, base}
use Rattle.rules.specs.Fields.{WI, RI, EN, holds_at, byte_at, mark_at}
use Rattle.rules.specs.Bytes.{Part, bf, wi, ri, fixed, parts, size_of, start_of, schedule_in}
use Rattle.rules.specs.Numbers.{Told, tell, told, all_done, schedule_cut, not_fixed, after_schedule, sum_above}
use Rattle.rules.specs.Answers.{stands_at, records_say, end_says}
use Rattle.rules.specs.Reading.{Grid, task_of, table_of}
use Rattle.rules.specs.declared.Refusal.{Refusal}
use Rattle.rules.specs.declared.Tasks.{Tasks}
use Rattle.rules.specs.declared.Signals.{Signals}
use Rattle.theory.proofs.Tests.{split}
use Rattle.theory.proofs.Laid.{Laid, laid}
use Rattle.form.specs.declared.forms.Place.{Place}
use Rattle.form.specs.Records.{Instances, parts_in}
use Rattle.form.specs.Form.{form_says, walked, bf_stands, instance_stands, use_stands, signal_step, use_step, step, end_step, end_of}
use Rattle.form.proofs.Walks.{walked_stays}
use Rattle.form.proofs.Running.{Within, parts_within}
use Rattle.form.proofs.Tables.{parts_is}

-- ---- tests

and_when : (b c : Bool) → (b && c) ≡ when b c false
unfolding when
and_when true c = refl
and_when false c = refl

and-true : (b : Bool) → (b && true) ≡ b
and-true true = refl
and-true false = refl

pub not_leb : (a b : ℕ) → ltb a b ≡ not (leb b a)
not_leb a b = split (leb b a) (λ e. le-ltb a b (leb-true b a e) ∙ ap not (sym e)) (λ e. lt-ltb a b (leb-false b a e) ∙ ap not (sym e))

not_ltb : (a b : ℕ) → not (ltb a b) ≡ leb b a
not_ltb a b = split (leb b a) (λ e. ap not (le-ltb a b (leb-true b a e)) ∙ sym e) (λ e. ap not (lt-ltb a b (leb-false b a e)) ∙ sym e)

-- ---- fixed bytes

module _ (bytes : List ℕ) where
  stands_first : (p b : ℕ) (bs : List ℕ) → stands_at bytes p (b ∷ bs) ≡ when (eqb (byte_at bytes p) b) (stands_at bytes (p + 1) bs) false
  unfolding stands_at
  stands_first p b bs = and_when (eqb (byte_at bytes p) b) (stands_at bytes (suc p) bs) ∙ ap (λ n. when (eqb (byte_at bytes p) b) (stands_at bytes n bs) false) (sym (add-one p))

  stands_next : (p j b : ℕ) (bs : List ℕ) → stands_at bytes (p + j) (b ∷ bs) ≡ when (eqb (byte_at bytes (p + j)) b) (stands_at bytes (p + suc j) bs) false
  unfolding stands_at
  stands_next p j b bs =
      and_when (eqb (byte_at bytes (p + j)) b) (stands_at bytes (suc (p + j)) bs) ∙ ap (λ n. when (eqb (byte_at bytes (p + j)) b) (stands_at bytes n bs) false) (sym (add-suc p j))

  stands_last : (p b : ℕ) → stands_at bytes p (b ∷ []) ≡ eqb (byte_at bytes p) b
  unfolding stands_at
  stands_last p b = and-true (eqb (byte_at bytes p) b)

  pub bf_stands_lem : (p s : ℕ) → stands_at bytes p (fixed (bf s)) ≡ bf_stands bytes p s
  unfolding bf_stands
  bf_stands_lem p s = rw (stands_first p 66 (70 ∷ s ∷ []), stands_next p 1 70 (s ∷ []), stands_last (p + 2) s)

  pub use_stands_lem : (p m n s k i : ℕ) → stands_at bytes p (m ∷ n ∷ s ∷ k ∷ i / 256 ∷ i % 256 ∷ []) ≡ use_stands bytes p (m ∷ n ∷ []) s k i
  unfolding use_stands instance_stands
  use_stands_lem p m n s k i =
      rw (
        stands_first p m (n ∷ s ∷ k ∷ i / 256 ∷ i % 256 ∷ []),
        stands_next p 1 n (s ∷ k ∷ i / 256 ∷ i % 256 ∷ []),
        stands_next p 2 s (k ∷ i / 256 ∷ i % 256 ∷ []),
        stands_next p 3 k (i / 256 ∷ i % 256 ∷ []),
        stands_next p 4 (i / 256) (i % 256 ∷ []),
        stands_last (p + 5) (i % 256),
      )

-- ---- the answer of a walk, where `more` judges what comes after it

abbrev pub closed : (ℕ → ℕ → Told) → Result Place Refusal → Told
closed more (Ok p) = more p.at p.sum
closed more (Err r) = told (Err r)

module _ (bytes : List ℕ) (more : ℕ → ℕ → Told) where
  -- a record that is wrong gives the answer
  turned : (xs : List Part) (b : Bool) (r : Refusal) (w : Result Place Refusal) → closed more (walked (step bytes) xs (when b (Err r) w)) ≡ when b (told (Err r)) (closed more (walked (step bytes) xs w))
  unfolding when
  turned xs true r w = ap (closed more) (walked_stays (step bytes) (Err r) (λ x. refl) xs)
  turned xs false r w = refl

  -- one signal's record
  both_rungs : (b : ℕ) (t r : Told) → when (not (leb 1 b && leb b 32)) t r ≡ when (ltb b 1) t (when (ltb 32 b) t r)
  unfolding when
  both_rungs b t r = go (leb 1 b) (leb b 32) ∙ ap₂ (λ (u v : Bool). when u t (when v t r)) (sym (not_leb b 1)) (sym (not_leb 32 b))
    where
      go : (u v : Bool) → when (not (u && v)) t r ≡ when (not u) t (when (not v) t r)
      go true v = refl
      go false v = refl

  -- the tests of a record at a place: whole, fixed bytes, the free one
  abbrev rungs : ℕ → ℕ → Bool → Bool → ℕ → Told → Told
  rungs p n stands wrong number rest = when (ltb (length bytes) (p + n)) (tell schedule_cut p) (when (not stands) (tell not_fixed p) (when wrong (tell number p) rest))

  signal_turn : (xs : List Part) (s : ℕ) (place : Place) (rest : Told)
      → rest ≡ closed more (walked (step bytes) xs (Ok (record { at = place.at + 4; count = byte_at bytes (place.at + 3); sum = place.sum + byte_at bytes (place.at + 3) })))
      → rungs place.at 4 (bf_stands bytes place.at s) (not (leb 1 (byte_at bytes (place.at + 3)) && leb (byte_at bytes (place.at + 3)) 32)) 17 rest
      ≡ closed more (walked (step bytes) xs (signal_step bytes s place))
  unfolding signal_step holds_at
  signal_turn xs s place rest e =
      ap₂ (λ (b : Bool) (r : Told). when b (tell schedule_cut place.at) r) (not_leb (length bytes) (place.at + 4))
      (ap (when (not (bf_stands bytes place.at s)) (tell not_fixed place.at))
      (both_rungs (byte_at bytes (place.at + 3)) (tell 17 place.at) rest
      ∙ ap (when (ltb (byte_at bytes (place.at + 3)) 1) (tell 17 place.at))
      (ap (when (ltb 32 (byte_at bytes (place.at + 3))) (tell 17 place.at)) e ∙ sym (turned xs _ _ _))
      ∙ sym (turned xs _ _ _))
      ∙ sym (turned xs _ _ _))
      ∙ sym (turned xs _ _ _)

  -- one instance's record
  use_turn : (xs : List Part) (mark : List ℕ) (s k i : ℕ) (place : Place) (rest : Told)
      → rest ≡ closed more (walked (step bytes) xs (Ok (record { at = place.at + 7; count = place.count; sum = place.sum })))
      → rungs place.at 7 (use_stands bytes place.at mark s k i) (leb place.count (byte_at bytes (place.at + 6))) 18 rest
      ≡ closed more (walked (step bytes) xs (use_step bytes mark s k i place))
  unfolding use_step holds_at
  use_turn xs mark s k i place rest e =
      ap₂ (λ (b : Bool) (r : Told). when b (tell schedule_cut place.at) r) (not_leb (length bytes) (place.at + 7))
      (ap (when (not (use_stands bytes place.at mark s k i)) (tell not_fixed place.at))
      (ap (when (leb place.count (byte_at bytes (place.at + 6))) (tell 18 place.at)) e ∙ sym (turned xs _ _ _))
      ∙ sym (turned xs _ _ _))
      ∙ sym (turned xs _ _ _)

module _ (tab : Table) (bytes : List ℕ) (more : ℕ → ℕ → Told) where
  abbrev E : Schedule
  E = schedule_in tab bytes

  count_at : (s p : ℕ) → start_of tab (bf s) ≡ p → E.count s ≡ byte_at bytes (p + 3)
  unfolding schedule_in
  count_at s p e = ap (λ n. byte_at bytes (n + 3)) e

  writer_wrong : (s k i p c : ℕ) → start_of tab (wi s k i) ≡ p → c ≡ E.count s → not (ltb (E.writer s k i) (E.count s)) ≡ leb c (byte_at bytes (p + 6))
  unfolding schedule_in
  writer_wrong s k i p c e h = not_ltb (E.writer s k i) (E.count s) ∙ ap₂ leb (sym h) (ap (λ n. byte_at bytes (n + 6)) e)

  reader_wrong : (s k i p c : ℕ) → start_of tab (ri s k i) ≡ p → c ≡ E.count s → not (ltb (E.reader s k i) (E.count s)) ≡ leb c (byte_at bytes (p + 6))
  unfolding schedule_in
  reader_wrong s k i p c e h = not_ltb (E.reader s k i) (E.count s) ∙ ap₂ leb (sym h) (ap (λ n. byte_at bytes (n + 6)) e)

  base_next : (n s b : ℕ) → s ≡ n → E.count s ≡ b → base E (suc n) ≡ base E n + b
  unfolding base total
  base_next n s b e h = ap (λ x. base E n + x) (ap E.count (sym e) ∙ h)

  records_walked : (xs : List Part) (p q n m c : ℕ) → Laid tab p xs q → Within n xs m → ((s : ℕ) → suc s ≡ n → c ≡ E.count s)
      → records_say tab bytes xs (more q (base E m)) ≡ closed more (walked (step bytes) xs (Ok (record { at = p; count = c; sum = base E n })))
  unfolding records_say walked
  records_walked [] p q n m c a w h = ap₂ more (sym a) (ap (base E) (sym w))
  records_walked (bf s ∷ xs) p q n m c a w h =
      let b = count_at s p a.0 in
      rw (a.0, bf_stands_lem bytes p s, b)
      (signal_turn bytes more xs s (record { at = p; count = c; sum = base E n }) _
      (records_walked xs (p + 4) q (suc n) m (byte_at bytes (p + 3)) a.1 w.1 (λ t e. sym b ∙ ap E.count (w.0 ∙ sym (suc_inj e)))
      ∙ ap (λ z. closed more (walked (step bytes) xs (Ok (record { at = p + 4; count = byte_at bytes (p + 3); sum = z })))) (base_next n s (byte_at bytes (p + 3)) w.0 b)))
  records_walked (wi s k i ∷ xs) p q n m c a w h =
      rw (writer_wrong s k i p c a.0 (h s w.0), a.0, use_stands_lem bytes p 87 73 s k i)
      (use_turn bytes more xs WI s k i (record { at = p; count = c; sum = base E n }) _ (records_walked xs (p + 7) q n m c a.1 w.1 h))
  records_walked (ri s k i ∷ xs) p q n m c a w h =
      rw (reader_wrong s k i p c a.0 (h s w.0), a.0, use_stands_lem bytes p 82 73 s k i)
      (use_turn bytes more xs RI s k i (record { at = p; count = c; sum = base E n }) _ (records_walked xs (p + 7) q n m c a.1 w.1 h))

-- ---- the end

told_when : (b : Bool) (a r : Result ℕ Refusal) → told (when b a r) ≡ when b (told a) (told r)
unfolding when
told_when true a r = refl
told_when false a r = refl

unless_first : (b : Bool) (x r t : Told) → (b ≡ false → r ≡ t) → when b x r ≡ when b x t
unfolding when
unless_first true x r t h = refl
unless_first false x r t h = h refl

end_stands : (bytes : List ℕ) (p : ℕ) → not (holds_at bytes p 2) ≡ false → stands_at bytes p EN ≡ mark_at bytes p EN
unfolding mark_at
end_stands bytes p e =
    rw (not-false (holds_at bytes p 2) e, stands_first bytes p 69 (78 ∷ []), stands_last bytes (p + 1) 78) (sym (and_when (eqb (byte_at bytes p) 69) (eqb (byte_at bytes (p + 1)) 78)))

end_walked : (tab : Table) (bytes : List ℕ) (place : Place) → place.at ≡ total (size_of tab) tab.signals
    → end_says tab bytes (when (ltb (room tab) place.sum) (tell sum_above 0) (tell all_done 0)) ≡ told (end_step bytes place)
unfolding end_says end_step holds_at
end_walked tab bytes place e =
    rw (← e)
    (ap (λ (b : Bool). when b (tell schedule_cut p) (when (not (stands_at bytes p EN)) (tell not_fixed p) rest)) (not_leb (length bytes) (p + 2))
    ∙ unless_first (not (leb (p + 2) (length bytes))) (tell schedule_cut p) _ _ (λ h. ap (λ (b : Bool). when (not b) (tell not_fixed p) rest) (end_stands bytes p h)
    ∙ ap (when (not (mark_at bytes p EN)) (tell not_fixed p)) (ap (when (ltb (p + 2) (length bytes)) (tell after_schedule (p + 2))) (sym (told_when _ _ _)) ∙ sym (told_when _ _ _)) ∙ sym (told_when _ _ _))
    ∙ sym (told_when _ _ _))
  where
    p : ℕ
    p = place.at

    rest : Told
    rest = when (ltb (p + 2) (length bytes)) (tell after_schedule (p + 2)) (when (ltb (room tab) place.sum) (tell sum_above 0) (tell all_done 0))

-- the first broken rule, 15 to 20, is what the walk and the end of it give
pub form_walked : (tab : Table) (bytes : List ℕ) → Within 0 (parts tab) tab.signals
    → told (end_of bytes (walked (step bytes) (parts tab) (Ok (record { at = 0; count = 0; sum = 0 })))) ≡ form_says tab bytes
unfolding form_says base total end_step
form_walked tab bytes w =
    sym (closing (walked (step bytes) (parts tab) (Ok (record { at = 0; count = 0; sum = 0 })))) ∙ sym (records_walked tab bytes more (parts tab) 0 (total (size_of tab) tab.signals) 0 tab.signals 0 (laid tab) w (λ s e. absurd (omega arith)))
    ∙ ap (records_say tab bytes (parts tab)) (sym (end_walked tab bytes (ended (total (size_of tab) tab.signals) (base (schedule_in tab bytes) tab.signals)) refl))
  where
    ended : ℕ → ℕ → Place
    ended p n = record { at = p; count = 0; sum = n }

    more : ℕ → ℕ → Told
    more p n = told (end_step bytes (ended p n))

    closing : (v : Result Place Refusal) → closed more v ≡ told (end_of bytes v)
    closing (Ok place) = refl
    closing (Err r) = refl

-- the same from what the code has of the table
pub form_is : (tasks : Tasks) (S : Signals) (grid : Grid) (h : ℕ) (instances : List ℕ) → h ≡ lcm_all (λ k. (task_of tasks k).period) tasks.count → Instances tasks h instances → (n : ℕ) → S.count ≡ n
    → (bytes : List ℕ) {g : Grid} {t : ℕ} {w : Result Place Refusal} {r : Result ℕ Refusal} → g ≡ grid → t ≡ tasks.count → w ≡ walked (step bytes) (parts_in g instances t n) (Ok (record { at = 0; count = 0; sum = 0 })) → r ≡ end_of bytes w
    → told r ≡ form_says (table_of tasks S grid) bytes
form_is tasks S grid h instances e I n q bytes {g} {t} u v d f =
    let same = ap₂ (λ g t. parts_in g instances t n) u v ∙ parts_is tasks S grid h instances e I n q in
    ap told (f ∙ ap (end_of bytes) (d ∙ ap (λ xs. walked (step bytes) xs (Ok (record { at = 0; count = 0; sum = 0 }))) same))
    ∙ form_walked (table_of tasks S grid) bytes (subst (λ xs. Within 0 xs S.count) same (subst (λ m. Within 0 (parts_in g instances t n) m) (sym q) (parts_within g instances t n)))
