-- What the contracts of `live_list` and `lent` determine: two answers and two last lists that meet one are equal, and so many records lent by value are filled as a list of so many is. Assumes nothing.
use Rattle.std.specs.Prelude.{Result}
use mathlib.Core.Bool.{true, false}
use mathlib.Core.List.{List, [], ◌∷◌, ◌++◌, append_assoc}
use mathlib.Core.Path.{◌≡◌, refl, sym, ap, ap₂, ◌∙◌}
use Prim.Native.Nat.{ℕ, zero, suc, ◌+◌, ◌-◌, ◌≤◌}
use native.Mathlib.Nat.{not-suc-le-zero, le_of_suc-le-suc}
use native.Mathlib.Omega.{arith}
use lib.Dec.{leb, ltb, eqb}
use lib.ListN.{length, take, drop, replicate, length-replicate}
use lib.Seq.{take-append-add}
use Rattle.std.proofs.lemmas.List.{take-append-drop, length-take-le}
use borrow.Author.Tests.{leb-true, leb-false, ltb-true, ltb-false, eqb-true, eqb-false}
use Rattle.rules.specs.Words.{when}
use Rattle.rules.specs.Numbers.{Told, told, all_done}
use Rattle.rules.specs.Answers.{live_says}
use Rattle.rules.specs.Reading.{table_in, read_says}
use Rattle.rules.specs.Plan.{live_list}
use Rattle.rules.specs.declared.Refusal.{Refusal}
use Rattle.theory.proofs.Tests.{split, past, here}
use Rattle.theory.proofs.Answered.{live_answers}
use Rattle.theory.proofs.Proved.{whatever_is_read_keeps}
use Rattle.fields.proofs.Told.{told_exact}
use Rattle.lives.specs.declared.LiveValue.{LiveValue}
use Rattle.lives.specs.Lives.{live_values, live_told, live_front, live_out}
use Rattle.lives.proofs.Says.{length_lives}

-- two results of `live_list` on one table, signal and list
pub live_exact : (table : List ℕ) (s : ℕ) (list : List LiveValue) (a b : Result ℕ Refusal) (xs ys : List LiveValue)
    → (told a ≡ live_told table s (length list)) × (xs ≡ live_out table s list) → (told b ≡ live_told table s (length list)) × (ys ≡ live_out table s list) → (a ≡ b) × (xs ≡ ys)
live_exact table s list a b xs ys p q = (told_exact a b (p.0 ∙ sym q.0), p.1 ∙ sym q.1)

-- ---- so many records of a longer list

take_replicate : (n m : ℕ) (v : LiveValue) → n ≤ m → take n (replicate m v) ≡ replicate n v
take_replicate zero m v h = refl
take_replicate (suc n) zero v h = absurd (not-suc-le-zero h)
take_replicate (suc n) (suc m) v h = ap {B = List LiveValue} (λ l. v ∷ l) (take_replicate n m v (le_of_suc-le-suc h))

drop_replicate : (n m : ℕ) (v : LiveValue) → drop n (replicate m v) ≡ replicate (m - n) v
drop_replicate zero m v = let e : m ≡ m - 0 = omega arith in ap (λ (k : ℕ). replicate k v) e
drop_replicate (suc n) zero v = let e : 0 ≡ 0 - suc n = omega arith in ap (λ (k : ℕ). replicate k v) e
drop_replicate (suc n) (suc m) v = let e : m - n ≡ suc m - suc n = omega arith in drop_replicate n m v ∙ ap (λ (k : ℕ). replicate k v) e

-- a list that is filled has room
has_room : (table : List ℕ) (s room : ℕ) → (live_told table s room).number ≡ all_done → length (live_values (table_in table) s) ≤ room
unfolding live_told
has_room table s room e =
    split (eqb (read_says table).number all_done)
    (λ q.
    let F = (whatever_is_read_keeps table).accepted (eqb-true (read_says table).number all_done q) in
    let z : (live_says (table_in table) s room).number ≡ all_done = ap (λ (t : Told). t.number) (sym (here (eqb (read_says table).number all_done) _ _ q)) ∙ e in
    let L = live_answers (table_in table) F room s in
    split (leb (table_in table).signals s)
    (λ u. absurd (omega (arith, z, L.unknown.1 (leb-true (table_in table).signals s u))))
    (λ u.
    let y = leb-false (table_in table).signals s u in
    split (ltb room (length (live_list (table_in table) s)))
    (λ l. absurd (omega (arith, z, ap (λ (t : Told). t.number) (L.too_short y (ltb-true room _ l)))))
    (λ l. omega (arith, length_lives (table_in table) s, ltb-false room (length (live_list (table_in table) s)) l))))
    (λ q. absurd (eqb-false (read_says table).number all_done q (ap (λ (t : Told). t.number) (sym (past (eqb (read_says table).number all_done) _ _ q)) ∙ e)))

-- the records lent by value are what a list of so many holds after the call
pub lent_exact : (table : List ℕ) (s room most : ℕ) (v : LiveValue) → room ≤ most → take room (live_front table s room (replicate most v)) ≡ live_out table s (replicate room v)
unfolding live_front
lent_exact table s room most v h = rw (length-replicate room v) (split (eqb (live_told table s room).number all_done)
    (λ q. rw (filled q (replicate most v), filled q (replicate room v), drop_replicate (length L) most v, drop_replicate (length L) room v)
    (let l = has_room table s room (eqb-true (live_told table s room).number all_done q) in
    let e : room ≡ length L + (room - length L) = omega arith in
    ap (λ (n : ℕ). take n (L ++ replicate (most - length L) v)) e ∙ take-append-add L (replicate (most - length L) v) (room - length L)
    ∙ ap (λ (l : List LiveValue). L ++ l) (take_replicate (room - length L) (most - length L) v (omega arith))))
    (λ q. rw (refused q (replicate most v), refused q (replicate room v)) (take_replicate room most v h)))
  where
    L : List LiveValue
    L = live_values (table_in table) s

    filled : eqb (live_told table s room).number all_done ≡ true → (ys : List LiveValue) → when (eqb (live_told table s room).number all_done) (L ++ drop (length L) ys) ys ≡ L ++ drop (length L) ys
    filled q ys = here (eqb (live_told table s room).number all_done) _ _ q

    refused : eqb (live_told table s room).number all_done ≡ false → (ys : List LiveValue) → when (eqb (live_told table s room).number all_done) (L ++ drop (length L) ys) ys ≡ ys
    refused q ys = past (eqb (live_told table s room).number all_done) _ _ q

-- ---- where only the first records of a list are lent

split_front : (n room : ℕ) (ys : List LiveValue) → n ≤ room → drop n (take room ys) ++ drop room ys ≡ drop n ys
split_front zero room ys h = take-append-drop room ys
split_front (suc n) zero ys h = absurd (not-suc-le-zero h)
split_front (suc n) (suc room) [] h = refl
split_front (suc n) (suc room) (y ∷ ys) h = split_front n room ys (le_of_suc-le-suc h)

-- they are filled as a list of so many is, and the records beyond stay
front_lent : (table : List ℕ) (s room : ℕ) (ys : List LiveValue) → live_front table s room (take room ys) ++ drop room ys ≡ live_front table s room ys
unfolding live_front
front_lent table s room ys = split (eqb (live_told table s room).number all_done)
    (λ q. rw (filled q (take room ys), filled q ys)
    (append_assoc L (drop (length L) (take room ys)) (drop room ys)
    ∙ ap (λ (l : List LiveValue). L ++ l) (split_front (length L) room ys (has_room table s room (eqb-true (live_told table s room).number all_done q)))))
    (λ q. rw (refused q (take room ys), refused q ys) (take-append-drop room ys))
  where
    L : List LiveValue
    L = live_values (table_in table) s

    filled : eqb (live_told table s room).number all_done ≡ true → (zs : List LiveValue) → when (eqb (live_told table s room).number all_done) (L ++ drop (length L) zs) zs ≡ L ++ drop (length L) zs
    filled q zs = here (eqb (live_told table s room).number all_done) _ _ q

    refused : eqb (live_told table s room).number all_done ≡ false → (zs : List LiveValue) → when (eqb (live_told table s room).number all_done) (L ++ drop (length L) zs) zs ≡ zs
    refused q zs = past (eqb (live_told table s room).number all_done) _ _ q

-- so a call that fills them gives what is promised of the whole list
pub lent_gives : (table : List ℕ) (s : ℕ) (ys : List LiveValue) {first room : ℕ} → first ≡ room → room ≤ length ys → {t : Told} {after : List LiveValue}
    → t ≡ live_told table s (length (take first ys)) → after ≡ live_out table s (take first ys) → (t ≡ live_told table s room) × (after ++ drop first ys ≡ live_front table s room ys)
lent_gives table s ys {first} {room} e h a b =
    let n : length (take first ys) ≡ room = ap (λ (k : ℕ). length (take k ys)) e ∙ length-take-le room ys h in (
      a ∙ ap (live_told table s) n,
      ap₂ (λ (l : List LiveValue) (k : ℕ). l ++ drop k ys) (b ∙ ap (λ (k : ℕ). live_front table s k (take first ys)) n ∙ ap (λ (k : ℕ). live_front table s room (take k ys)) e) e ∙ front_lent table s room ys,
    )
