-- One value more: its record stands after the others, and its element is held. Assumes nothing.
use mathlib.Core.List.{List, [], ◌∷◌, ◌++◌, map}
use mathlib.Core.Path.{◌≡◌, refl, sym, ap, ap₂, ◌∙◌}
use Prim.Native.Nat.{ℕ, zero, suc, ◌+◌, ◌-◌, ◌≤◌, ◌<◌, max}
use native.Mathlib.Omega.{arith}
use lib.Dec.{eqb}
use lib.ListN.{length, get_or, set, replicate, length-append, length-set, length-map}
use lib.Seq.{set_at, append_snoc}
use borrow.Author.Tests.{ltb-true, ltb-false, eqb-true, eqb-false}
use Rattle.rules.specs.Table.{most_values, most_elements}
use Rattle.rules.specs.Values.{Life}
use Rattle.rules.specs.Plan.{Placed}
use Rattle.theory.specs.Untils.{first_free, hold, holding, fold, untils}
use Rattle.theory.proofs.Tests.{split}
use Rattle.theory.proofs.Untils.{first_lowest, first_within, hold_used, hold_new}
use Rattle.elements.specs.Steps.{free_in}
use Rattle.elements.proofs.Passed.{free_in_lem}
use Rattle.lives.specs.declared.LiveValue.{LiveValue}
use Rattle.lives.specs.Values.{shown, blank, padded, Held}

-- ---- the lives placed one after the other

fold_more : (us : List ℕ) (ls : List Life) (l : Life) → fold us (ls ++ l ∷ []) ≡ fold us ls ++ record { life = l; element = first_free (untils us ls) l.from } ∷ []
unfolding fold untils
fold_more us [] l = refl
fold_more us (x ∷ ls) l = ap {B = List Placed} (λ r. record { life = x; element = first_free us x.from } ∷ r) (fold_more (holding us x) ls l)

pub length_fold : (us : List ℕ) (ls : List Life) → length (fold us ls) ≡ length ls
unfolding fold
length_fold us [] = refl
length_fold us (l ∷ ls) = ap suc (length_fold (holding us l) ls)

untils_append : (us : List ℕ) (xs ys : List Life) → untils us (xs ++ ys) ≡ untils (untils us xs) ys
unfolding untils
untils_append us [] ys = refl
untils_append us (x ∷ xs) ys = untils_append (holding us x) xs ys

map_more : (ps : List Placed) (p : Placed) → map shown (ps ++ p ∷ []) ≡ map shown ps ++ shown p ∷ []
map_more [] p = refl
map_more (q ∷ ps) p = ap {B = List LiveValue} (λ r. shown q ∷ r) (map_more ps p)

-- ---- the until-ticks in an array

-- places not in use hold nothing
get_padded : (us : List ℕ) (m e : ℕ) → get_or (us ++ replicate m 0) e 0 ≡ get_or us e 0
get_padded [] zero e = refl
get_padded [] (suc m) zero = refl
get_padded [] (suc m) (suc e) = get_padded [] m e
get_padded (u ∷ us) m zero = refl
get_padded (u ∷ us) m (suc e) = get_padded us m e

abbrev zeros : List ℕ → List ℕ
zeros us = replicate (most_elements - length us) 0

-- a hold is a store, and takes a new place at most
record Stored (us : List ℕ) (e u : ℕ) : Type 0 where
  pub size : length (hold us e u) ≡ max (length us) (suc e)
  pub array : suc e ≤ most_elements → length us ≤ most_elements → set (us ++ zeros us) e u ≡ hold us e u ++ zeros (hold us e u)

stored : (us : List ℕ) (e u : ℕ) → e ≤ length us → Stored us e u
stored us e u h = split (eqb e (length us)) (λ q. new (eqb-true e (length us) q)) (λ q. let z = eqb-false e (length us) q in used (omega arith))
  where
    used : e < length us → Stored us e u
    used l =
        let n : length (hold us e u) ≡ length us =
        let s = ap length (hold_used us [] e u l) in
        omega (arith, s, length-set (us ++ []) e u, length-append {A = ℕ} us [], length-append {A = ℕ} (hold us e u) []) in
        record {
          size = omega arith;
          array = λ a b. hold_used us (zeros us) e u l ∙ ap (λ (m : ℕ). hold us e u ++ replicate (most_elements - m) 0) (sym n);
        }

    new : e ≡ length us → Stored us e u
    new q =
        let n : length (hold us (length us) u) ≡ suc (length us) =
        let s = ap length (hold_new us [] 0 u) in
        omega (arith, s, length-set (us ++ 0 ∷ []) (length us) u, length-append us (0 ∷ []), length-append {A = ℕ} (hold us (length us) u) []) in
        record {
          size = rw q (omega arith);
          array = λ a b.
              let z : most_elements - length us ≡ suc (most_elements - suc (length us)) = omega arith in
              rw (q, z, n) (hold_new us (replicate (most_elements - suc (length us)) 0) 0 u);
        }

size_holding : (us : List ℕ) (l : Life) → length (holding us l) ≡ max (length us) (suc (first_free us l.from))
unfolding holding
size_holding us l = (stored us (first_free us l.from) l.until (first_within us l.from)).size

-- more lives hold no fewer elements
pub grows : (us : List ℕ) (ls : List Life) → length us ≤ length (untils us ls)
unfolding untils
grows us [] = omega arith
grows us (l ∷ ls) = omega (arith, size_holding us l, grows (holding us l) ls)

pub untils_grow : (us : List ℕ) (xs ys : List Life) → length (untils us xs) ≤ length (untils us (xs ++ ys))
untils_grow us xs ys = rw (untils_append us xs ys) (grows (untils us xs) ys)

-- the lowest free element is found in the array
free_padded : (us : List ℕ) (t : ℕ) → first_free us t < most_elements → free_in (us ++ zeros us) t ≡ first_free us t
free_padded us t h =
    let L = first_lowest us t in
    free_in_lem (us ++ zeros us) t (first_free us t) h
    (λ l. rw (get_padded us (most_elements - length us) (first_free us t)) (ltb-false t (get_or us (first_free us t) 0) L.free))
    (λ d l. rw (get_padded us (most_elements - length us) d) (ltb-true t (get_or us d 0) (L.taken d l)))

-- ---- the records in an array

put_record : (xs : List LiveValue) (v : LiveValue) → length xs < most_values → set (padded xs) (length xs) v ≡ padded (xs ++ v ∷ [])
put_record xs v h =
    let z : most_values - length xs ≡ suc (most_values - (length xs + 1)) = omega arith in
    let n : length (xs ++ v ∷ []) ≡ length xs + 1 = length-append xs (v ∷ []) in
    rw (z, n) (set_at xs blank (replicate (most_values - (length xs + 1)) blank) v (length xs) refl ∙ sym (append_snoc xs v (replicate (most_values - (length xs + 1)) blank)))

-- ---- one value more

module _ (ls : List Life) (l : Life) (held : List ℕ) (values : List LiveValue) (count : ℕ) (K : Held ls held values count)
    (room : length ls < most_values) (few : length (untils [] (ls ++ l ∷ [])) ≤ most_elements) where
  abbrev us : List ℕ
  us = untils [] ls

  after : untils [] (ls ++ l ∷ []) ≡ hold us (first_free us l.from) l.until
  unfolding untils holding
  after = untils_append [] ls (l ∷ [])

  S : Stored us (first_free us l.from) l.until
  S = stored us (first_free us l.from) l.until (first_within us l.from)

  low : suc (first_free us l.from) ≤ most_elements
  low = omega (arith, S.size, ap length after, few)

  free_is : free_in held l.from ≡ first_free us l.from
  free_is = ap (λ (h : List ℕ). free_in h l.from) K.ticks ∙ free_padded us l.from low

  pub held_more : Held (ls ++ l ∷ []) (set held (free_in held l.from) l.until) (set values count (shown (record { life = l; element = free_in held l.from }))) (count + 1)
  held_more = record {
    number = omega (arith, K.number, length-append ls (l ∷ []));
    records =
        let p : Placed = record { life = l; element = first_free us l.from } in
        let n : count ≡ length (map shown (fold [] ls)) = K.number ∙ sym (length-map (fold [] ls) shown ∙ length_fold [] ls) in
        ap₂ (λ (vs : List LiveValue) (e : ℕ). set vs count (shown (record { life = l; element = e }))) K.records free_is
        ∙ ap (λ (c : ℕ). set (padded (map shown (fold [] ls))) c (shown p)) n
        ∙ put_record (map shown (fold [] ls)) (shown p) (omega (arith, n, K.number))
        ∙ ap padded (sym (map_more (fold [] ls) p)) ∙ ap (λ (ps : List Placed). padded (map shown ps)) (sym (fold_more [] ls l));
    ticks =
        ap₂ (λ (h : List ℕ) (e : ℕ). set h e l.until) K.ticks free_is ∙ S.array low (omega (arith, S.size, ap length after, few))
        ∙ ap (λ (h : List ℕ). h ++ zeros h) (sym after);
  }

-- other names for what is held
pub moved : {ls : List Life} {h held : List ℕ} {v values : List LiveValue} {c count : ℕ} → h ≡ held → v ≡ values → c ≡ count → Held ls held values count → Held ls h v c
moved a b d K = record { number = d ∙ K.number; records = b ∙ K.records; ticks = a ∙ K.ticks }
