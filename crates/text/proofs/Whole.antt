-- No listing is longer than the longest, and on a page with room for it it stands whole. Assumes nothing.
use Prim.Native.Nat.{ℕ, zero, suc, ◌+◌, ◌*◌, ◌/◌, ◌%◌, ◌≤◌, ◌<◌}
use mathlib.Core.Bool.{Bool, true, false, not}
use mathlib.Core.List.{List, [], ◌∷◌, ◌++◌, map}
use mathlib.Core.Path.{◌≡◌, refl, ap, ◌∙◌}
use native.Mathlib.Numerals.{add-one}
use native.Mathlib.Omega.{arith}
use lib.Dec.{ltb, eqb}
use lib.ListN.{length, take, drop, set, length-append, length-set}
use lib.Seq.{sets, sets-eq}
use Rattle.std.proofs.lemmas.Bool.Decides.{nat_tests}
use borrow.Author.Tests.{lt-ltb, ltb-true, eqb-true, not-false}
use Rattle.rules.specs.Words.{when, total}
use Rattle.rules.specs.Windows.{Table, hyper, instances}
use Rattle.rules.specs.Table.{Fits}
use Rattle.rules.specs.Schedule.{base, Passes}
use Rattle.rules.specs.Plan.{plan}
use Rattle.rules.specs.Bytes.{Part, bf, wi, ri, parts}
use Rattle.rules.specs.Numbers.{Told, all_done}
use Rattle.rules.specs.Answers.{plan_says}
use Rattle.rules.specs.Reading.{table_in, read_says}
use Rattle.rules.specs.Listing.{ascii, line_feed, digit, figures, decimal_of, named, hyper_line, record_line, total_line, refused_line, table_lines, text_of, listing}
use Rattle.theory.proofs.Tests.{when_right}
use Rattle.theory.proofs.Lists.{All}
use Rattle.theory.proofs.Checked.{Of, parts_of_lem, fits_free}
use Rattle.theory.proofs.Sums.{block_lt}
use Rattle.theory.proofs.Answered.{plan_answers}
use Rattle.theory.proofs.TableRead.{read_keeps}
use Rattle.fields.proofs.Whens.{on}
use Rattle.console.specs.Page.{page, put_one, put_all}
use Rattle.text.specs.Gives.{longest_listing}
use Rattle.text.proofs.Weights.{weight, weights, weights_all}

-- ---- figures

step : (t : Bool) (a z : ℕ) (l : List ℕ) → length (when t (a ∷ []) (l ++ z ∷ [])) ≤ length l + 1
unfolding when
step true a z l = omega arith
step false a z l = omega (arith, length-append l (z ∷ []))

-- a number has no more than one figure more than its tenth
figures_next : (most n : ℕ) → length (figures (suc most) n) ≤ length (figures most (n / 10)) + 1
unfolding figures
figures_next most n = step (ltb n 10) (digit n) (digit (n % 10)) (figures most (n / 10))

figures_most : (most n : ℕ) → length (figures most n) ≤ most
unfolding figures
figures_most zero n = omega arith
figures_most (suc most) n = omega (arith, figures_next most n, figures_most most (n / 10))

figures_one : (most n : ℕ) → n < 10 → length (figures most n) ≤ 1
unfolding figures
figures_one zero n h = omega arith
figures_one (suc most) n h = omega (arith, ap length (on (digit n ∷ []) (figures most (n / 10) ++ digit (n % 10) ∷ []) (lt-ltb n 10 h)))

two : (n : ℕ) → n < 100 → length (decimal_of n) ≤ 2
two n h = omega (arith, figures_next 19 n, figures_one 19 (n / 10) (omega arith))

three : (n : ℕ) → n < 1000 → length (decimal_of n) ≤ 3
three n h = omega (arith, figures_next 19 n, figures_next 18 (n / 10), figures_one 18 (n / 10 / 10) (omega arith))

-- ---- lines

text_length : (l : List ℕ) (ls : List (List ℕ)) → length (text_of (l ∷ ls)) ≡ length l + 1 + length (text_of ls)
unfolding text_of
text_length l ls = omega (arith, length-append l (line_feed ∷ text_of ls))

refused_length : (t : Told) → length (text_of (refused_line t ∷ [])) ≤ longest_listing
unfolding text_of
refused_length t =
    omega (arith, text_length (refused_line t) [], length-append (decimal_of t.number) (named (ascii " place ") t.place), figures_most 20 t.number, figures_most 20 t.place)

-- the characters of an instance's line with its line feed, and the most for its numbers
use_length : (a b c : ℕ) → a < 100 → b < 1000 → c < 100 → length (decimal_of a ++ named (ascii " ") b ++ named (ascii " element ") c) ≤ 17
use_length a b c h k l =
    omega (arith, length-append (decimal_of a ++ named (ascii " ") b) (named (ascii " element ") c), length-append (decimal_of a) (named (ascii " ") b), two a h, three b k, two c l)

-- each signal 22, and 24 for each use
each : (n : ℕ) → total (λ s. 22) n ≡ 22 * n
unfolding total
each zero = refl
each (suc n) = omega (arith, each n)

module _ (tab : Table) (F : Fits tab) (A : Passes tab (plan tab)) where
  instance_short : (k i : ℕ) → k < tab.tasks → i < instances tab k → i < 512
  instance_short k i h l = omega (arith, block_lt (instances tab) k i tab.tasks h l, F.few_instances)

  line_length : (x : Part) → Of tab x → length (record_line (plan tab) x) + 1 ≤ weight (λ s. 22) 24 x
  line_length (bf s) y =
      let c = (A.counted s y).1 in
      omega (arith, length-append (decimal_of s) (named (ascii " elements ") ((plan tab).count s)), two s (omega (arith, F.few_signals)), two ((plan tab).count s) (omega arith))
  line_length (wi s k i) (y, h, w, l) =
      let e = ltb-true ((plan tab).writer s k i) ((plan tab).count s) (fits_free tab F (plan tab) A (wi s k i) (y, h, w, l)) in
      omega (arith, use_length k i ((plan tab).writer s k i) (omega (arith, F.few_tasks)) (omega (arith, instance_short k i h l)) (omega (arith, (A.counted s y).1)))
  line_length (ri s k i) (y, h, w, l) =
      let e = ltb-true ((plan tab).reader s k i) ((plan tab).count s) (fits_free tab F (plan tab) A (ri s k i) (y, h, w, l)) in
      omega (arith, use_length k i ((plan tab).reader s k i) (omega (arith, F.few_tasks)) (omega (arith, instance_short k i h l)) (omega (arith, (A.counted s y).1)))

  records_length : (last : List ℕ) (xs : List Part) → All (Of tab) xs → length (text_of (map (record_line (plan tab)) xs ++ last ∷ [])) ≤ weights (λ s. 22) 24 xs + length last + 1
  unfolding weights text_of
  records_length last [] a = omega (arith, text_length last [])
  records_length last (x ∷ xs) a = omega (arith, text_length (record_line (plan tab) x) (map (record_line (plan tab)) xs ++ last ∷ []), line_length x a.0, records_length last xs a.1)

  table_length : length (text_of (table_lines tab)) ≤ longest_listing
  unfolding table_lines
  table_length =
      let sum = base (plan tab) tab.signals in
      omega (
        arith,
        text_length (hyper_line (hyper tab)) (map (record_line (plan tab)) (parts tab) ++ total_line sum ∷ []),
        records_length (total_line sum) (parts tab) (parts_of_lem tab),
        weights_all (λ s. 22) 24 tab,
        each tab.signals,
        figures_most 20 (hyper tab),
        figures_most 20 sum,
        F.few_signals,
        F.few_uses,
      )

pub listing_length : (table : List ℕ) (lent : ℕ) → length (listing table lent) ≤ longest_listing
unfolding listing
listing_length table lent =
    when_right Short (not (eqb (read_says table).number all_done)) _ _ (λ q. refused_length (read_says table)) (λ q.
    let F = (read_keeps table).accepted (eqb-true _ _ (not-false _ q)) in
    when_right Short (not (eqb (plan_says (table_in table) lent).number all_done)) _ _ (λ p. refused_length (plan_says (table_in table) lent)) (λ p.
    table_length (table_in table) F ((plan_answers (table_in table) F lent).passes (eqb-true _ _ (not-false _ p))).0))
  where
    Short : List (List ℕ) → Type 0
    Short ls = length (text_of ls) ≤ longest_listing

-- ---- the page

put_fits : (b : ℕ) (out : List ℕ) (at : ℕ) → at < length out → put_one b (page out at) ≡ page (set out at b) (at + 1)
put_fits b out at h = grind (arith, nat_tests)

put_sets : (bs out : List ℕ) (at : ℕ) → at + length bs ≤ length out → put_all bs (page out at) ≡ page (sets out at bs) (at + length bs)
put_sets [] out at h = let e : at ≡ at + 0 = omega arith in ap (page out) e
put_sets (b ∷ bs) out at h =
    ap (put_all bs) (put_fits b out at (omega arith) ∙ ap (page (set out at b)) (add-one at))
    ∙ put_sets bs (set out at b) (suc at) (omega (arith, length-set out at b))
    ∙ (let e : suc at + length bs ≡ at + length (b ∷ bs) = omega arith in ap (page (sets out at (b ∷ bs))) e)

pub put_whole : (bs out : List ℕ) (at : ℕ) → at + length bs ≤ length out → put_all bs (page out at) ≡ page (take at out ++ bs ++ drop (at + length bs) out) (at + length bs)
put_whole bs out at h = put_sets bs out at h ∙ ap (λ (l : List ℕ). page l (at + length bs)) (sets-eq bs out at h)
