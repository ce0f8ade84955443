-- A value shares its element just where it clashes with the carried value, or with one of an earlier task or instance.
use mathlib.Core.Path.{◌≡◌, refl, sym, ap, ap₂, ◌∙◌}
use mathlib.Core.Bool.{Bool, true, false, not, ◌&&◌, ◌||◌}
use mathlib.Core.Logic.{⊎_elim}
use Prim.Native.Nat.{ℕ, ◌≤◌, ◌<◌}
use native.Mathlib.Omega.{arith}
use Rattle.std.proofs.Math.Nat.{zero-add}
use lib.Dec.{eqb, ltb}
use lib.ListN.{length}
use Rattle.std.specs.Bool.{MatchBool}
use Rattle.std.specs.List.{range_with_len, AllWithin, HoldsAt}
use Rattle.std.proofs.lemmas.List.FromFn.{length-range_with_len, get_or-range_with_len}
use borrow.Author.Tests.{eqb-true, ltb-true, lt-ltb, eq-eqb}
use Rattle.rules.specs.Words.{every, when}
use Rattle.rules.specs.Windows.{Table}
use Rattle.rules.specs.Values.{Value, carried, by, same, opening, until}
use Rattle.rules.specs.Table.{every_writer}
use Rattle.rules.specs.Schedule.{Schedule, element_of, clash}
use Rattle.rules.specs.Bytes.{wi}
use Rattle.rules.specs.Answers.{sharing}
use Rattle.rules.specs.Reading.{Grid, writes_in}
use Rattle.theory.proofs.Tests.{agree, no_test, not_both, both, both3, and_is, is, holds, unless, unless_is, or_cases, or_left, or_right}
use Rattle.theory.proofs.Check.{every_at, every_is, writer_at, writer_is}
use Rattle.rules.specs.declared.Side.{Side}
use Rattle.faults.specs.declared.view.View.{View}
use Rattle.faults.specs.declared.sharing.Held.{Held}
use Rattle.faults.specs.declared.untils.Untils.{Untils}
use Rattle.faults.specs.declared.untils.Writer.{Writer}
use Rattle.faults.specs.Faults.{view_table, view_schedule, Has, records_in, view_records, held_of, clashing, apart_from, apart_from_task, apart_from_earlier, writer_of, held_at, carried_in}
use Rattle.faults.proofs.Viewed.{has_of, has_below, held_is}
use Rattle.faults.proofs.Numbered.{value_is}

every_same : (n : ℕ) (p q : ℕ → Bool) → ((k : ℕ) → k < n → p k ≡ q k) → every n p ≡ every n q
every_same n p q f = agree (λ e. every_is n q (λ k h. sym (f k h) ∙ every_at n p e k h)) (λ e. every_is n p (λ k h. f k h ∙ every_at n q e k h))

pub every_fails : (n k : ℕ) (p : ℕ → Bool) → k < n → p k ≡ false → false ≡ every n p
every_fails n k p h e = sym (no_test (every n p) (λ a. not_both (every_at n p a k h) e))

pub every_holds : (n : ℕ) (p : ℕ → Bool) → ((k : ℕ) → k < n → p k ≡ true) → true ≡ every n p
every_holds n p h = sym (every_is n p h)

-- a chain that asks a test of each number below n
pub every_below : (r : Bool) (n : ℕ) (p : ℕ → Bool)
    → MatchBool r (AllWithin (λ i. p i ≡ true) (range_with_len 0 n) 0 (length (range_with_len 0 n))) ((k : ℕ) × (k < length (range_with_len 0 n)) × HoldsAt (λ i. p i ≡ false) (range_with_len 0 n) k) → r ≡ every n p
every_below true n p h = every_holds n p (λ k l. rw (get_or-range_with_len 0 n k 0 l, zero-add) at (h k 0 (omega arith) (omega (arith, length-range_with_len 0 n))))
every_below false n p (k, l, h) = let m : k < n = omega (arith, length-range_with_len 0 n) in every_fails n k p m (rw (get_or-range_with_len 0 n k 0 m, zero-add) at (h 0))

-- the same values
apart_same : (values others : ℕ → Held) (held : Held) {r : Bool} {n m : ℕ} → r ≡ apart_from values held n → n ≡ m → ((i : ℕ) → i < n → values i ≡ others i) → apart_from others held m ≡ r
unfolding apart_from
apart_same values others held {r} {n} {m} e q f = sym (e ∙ every_same n _ _ (λ i h. ap (λ (v : Held). not (clashing v held)) (f i h)) ∙ ap (apart_from others held) q)

-- whether one value clashes, by the code's two steps
pub same_clash : {r : Bool} {a b : Held} (held : Held) → r ≡ clashing a held → a ≡ b → clashing b held ≡ r
same_clash held e q = sym (e ∙ ap (λ (h : Held). clashing h held) q)

-- those of task k, from what is kept
pub apart_is : (u : Untils) (k : ℕ) → k < u.view.accepted.now.tasks.count → {w : Writer} → w ≡ writer_of u.view k → (held : Held) {r : Bool} {n m : ℕ} → n ≤ view_records u.view Side.Writers k → n ≡ m
    → r ≡ apart_from (held_at w u.ticks.now u.view.schedule.now) held n → apart_from (λ j. held_of (view_table u.view) (view_schedule u.view) (by u.view.signal k j)) held m ≡ r
apart_is u k h {w} e held l q a =
    apart_same (held_at w u.ticks.now u.view.schedule.now) (λ j. held_of (view_table u.view) (view_schedule u.view) (by u.view.signal k j)) held a q (λ i m. value_is u.view k e u.ticks.now u.kept i (has_of u.view Side.Writers k i h l m))

-- the earlier tasks, then the earlier instances of the same task
module _ (tab : Table) (grid : Grid) (E : Schedule) (s : ℕ) (held : Held) (k i : ℕ) {e : Bool} (h : e ≡ every k (apart_from_task tab grid E s held)) where
  pub earlier_fails : e ≡ false → e ≡ apart_from_earlier tab grid E s held k i
  unfolding apart_from_earlier
  earlier_fails q = q ∙ ap (λ (b : Bool). b && apart_from (λ j. held_of tab E (by s k j)) held i) (sym q ∙ h)

  pub earlier_holds : {r : Bool} → e ≡ true → r ≡ apart_from (λ j. held_of tab E (by s k j)) held i → r ≡ apart_from_earlier tab grid E s held k i
  unfolding apart_from_earlier
  earlier_holds q a = a ∙ ap (λ (b : Bool). b && apart_from (λ j. held_of tab E (by s k j)) held i) (sym q ∙ h)

module _ (tab : Table) (E : Schedule) where
  clash_is : (u v : Value) → same u v ≡ false → clash tab E u v ≡ clashing (held_of tab E u) (held_of tab E v)
  unfolding clash clashing when
  clash_is u v e = go (eqb (element_of E u) (element_of E v)) (ltb (opening tab u) (until tab v)) (ltb (opening tab v) (until tab u)) (same u v) e
    where
      go : (a b c d : Bool) → d ≡ false → (a && b && c && not d) ≡ when a (when b c false) false
      go true true true d e = ap not e
      go true true false d e = refl
      go true false c d e = refl
      go false b c d e = refl

  other : (s l j k i : ℕ) → (l ≡ k → j ≡ i → ⊥) → same (by s l j) (by s k i) ≡ false
  unfolding same
  other s l j k i n = no_test _ (λ e. let b = both3 (eqb s s) (eqb l k) (eqb j i) e in n (eqb-true l k b.1) (eqb-true j i b.2))

module _ (u : Untils) (k i : ℕ) (H : Has u.view Side.Writers k i) where
  abbrev v : View
  v = u.view

  abbrev grid : Grid
  grid = v.accepted.now.grid

  abbrev tab : Table
  tab = view_table v

  abbrev E : Schedule
  E = view_schedule v

  abbrev s : ℕ
  s = v.signal

  abbrev own : Held
  own = held_of tab E (by s k i)

  abbrev earlier : ℕ → ℕ → Bool
  earlier l j = ltb l k || (eqb l k && ltb j i)

  clash_own : (l j : ℕ) → (l ≡ k → j ≡ i → ⊥) → clash tab E (by s l j) (by s k i) ≡ clashing (held_of tab E (by s l j)) own
  clash_own l j n = clash_is tab E (by s l j) (by s k i) (other tab E s l j k i n)

  earlier_is : every_writer tab s (λ l j. not (earlier l j) || not (clash tab E (by s l j) (by s k i))) ≡ apart_from_earlier tab grid E s own k i
  unfolding apart_from apart_from_earlier
  earlier_is =
      agree
      (λ e. and_is
      (every_is k _ (λ l h. every_is _ _ (λ j m.
      let (a, w, b) = has_of v Side.Writers l j (omega (arith, H.0)) (omega arith) m in
      ap not (sym (clash_own l j (λ q. let z : ⊥ = omega arith in absurd z))) ∙ unless (earlier l j) _ (writer_at tab s _ e l j a (holds w) b) (or_left (ltb l k) _ (lt-ltb l k h)))))
      (every_is i _ (λ j m.
      ap not (sym (clash_own k j (λ p q. omega arith))) ∙ unless (earlier k j) _ (writer_at tab s _ e k j H.0 (holds H.1) (omega (arith, H.2))) (or_right (ltb k k) _ (and_is (eq-eqb k k refl) (lt-ltb j i m))))))
      (λ e.
      let a = both (every k (λ l. apart_from (λ j. held_of tab E (by s l j)) own (records_in tab grid Side.Writers s l))) (apart_from (λ j. held_of tab E (by s k j)) own i) e in
      writer_is tab s _ (λ l j h w m. unless_is (earlier l j) _ (λ o.
      ⊎_elim
      (λ x.
      let z = ltb-true l k x in
      ap not (clash_own l j (λ p. let y : ⊥ = omega arith in absurd y)) ∙ every_at _ _ (every_at k _ a.0 l z) j (has_below v Side.Writers l j (h, is (writes_in grid s l) w, m)))
      (λ x.
      let b = both (eqb l k) (ltb j i) x in
      let z = ltb-true j i b.1 in
      let y = eqb-true l k b.0 in
      ap not (clash_own l j (λ p q. omega arith)) ∙ ap (λ n. not (clashing (held_of tab E (by s n j)) own)) y ∙ every_at i _ a.1 j z)
      (or_cases (ltb l k) _ o))))

  sharing_is : sharing tab E (wi s k i) ≡ (clashing (held_of tab E (carried s)) own || not (apart_from_earlier tab grid E s own k i))
  unfolding same
  sharing_is = ap₂ (λ (a b : Bool). a || not b) (clash_is tab E (carried s) (by s k i) refl) earlier_is

  module _ {held first : Held} {b : Bool} (e : held ≡ own) (f : first ≡ carried_in u.ticks.now) (q : b ≡ clashing first held) where
    carried_said : b ≡ clashing (held_of tab E (carried s)) own
    carried_said = q ∙ ap₂ clashing (f ∙ held_is 0 refl u.kept.first) e

    pub shares_carried : b ≡ true → b ≡ sharing tab E (wi s k i)
    shares_carried t = t ∙ sym (sharing_is ∙ or_left _ _ (sym carried_said ∙ t))

    pub shares_earlier : b ≡ false → {r : Bool} → r ≡ apart_from_earlier tab grid E s held k i → not r ≡ sharing tab E (wi s k i)
    shares_earlier t a = ap not (a ∙ ap (λ (h : Held). apart_from_earlier tab grid E s h k i) e) ∙ sym (sharing_is ∙ ap (λ (x : Bool). x || not (apart_from_earlier tab grid E s own k i)) (sym carried_said ∙ t))
