-- The walk along a schedule's bytes meets its records one after the other. Assumes nothing.
use Prim.Native.Nat.{ℕ, ◌+◌, ◌≤◌, ◌<◌}
use mathlib.Core.Bool.{Bool, true, false, ◌&&◌}
use mathlib.Core.List.{List, [], ◌∷◌, ◌++◌, map}
use mathlib.Core.Path.{◌≡◌, refl, sym, ap, subst, ◌∙◌}
use native.Mathlib.Nat.{div-add-mod'}
use native.Mathlib.Omega.{arith}
use lib.Dec.{eqb}
use lib.ListN.{length, drop}
use borrow.Author.Tests.{le-leb}
use Rattle.rules.specs.Windows.{Table, hyper}
use Rattle.rules.specs.Schedule.{Schedule, base}
use Rattle.rules.specs.Plan.{plan}
use Rattle.rules.specs.Fields.{BF, WI, byte_at, holds_at, mark_at}
use Rattle.rules.specs.Bytes.{Part, bf, wi, ri, size, parts, records_of, bytes_of}
use Rattle.rules.specs.Listing.{ascii, use_line, total_line, hyper_line, record_line, table_lines, text_of}
use Rattle.fields.proofs.Tested.{said}
use Rattle.fields.proofs.Whens.{on, off}
use Rattle.console.specs.Page.{Page, put_all}
use Rattle.text.specs.Walk.{Found, signal_in, use_in, record_in}
use Rattle.text.proofs.Put.{put_lines}
use Rattle.text.proofs.Weights.{weight, weights, weights_all}

-- ---- the record in front, by its mark

module _ (bytes : List ℕ) {b : Bool} (e : b ≡ mark_at bytes 0 BF) where
  pub is_signal : b ≡ true → record_in bytes ≡ signal_in bytes
  unfolding record_in
  is_signal t = on _ _ (said e t)

  module _ (f : b ≡ false) {d : Bool} (g : d ≡ mark_at bytes 0 WI) where
    pub is_write : d ≡ true → record_in bytes ≡ use_in (ascii "write ") bytes
    unfolding record_in
    is_write t = off _ _ (said e f) ∙ on _ _ (said g t)

    pub is_read : d ≡ false → record_in bytes ≡ use_in (ascii "read ") bytes
    unfolding record_in
    is_read t = off _ _ (said e f) ∙ off _ _ (said g t)

-- ---- the records of a schedule

mark_is : (a b : ℕ) (rest mark : List ℕ) → mark_at (a ∷ b ∷ rest) 0 mark ≡ (eqb a (byte_at mark 0) && eqb b (byte_at mark 1))
unfolding mark_at holds_at
mark_is a b rest mark = rw (le-leb 2 (length (a ∷ b ∷ rest)) (omega arith))

module _ (tab : Table) (E : Schedule) where
  abbrev found_of : Part → Found
  found_of x = record { line = record_line E x; size = size x; count = weight E.count 0 x }

  abbrev use_of : List ℕ → ℕ → ℕ → ℕ → Found
  use_of name k i e = record { line = use_line name k i e; size = 7; count = 0 }

  -- the first of them is found: an instance is its high byte and its low byte
  found : (x : Part) (xs : List Part) → record_in (records_of tab E (x ∷ xs)) ≡ found_of x
  unfolding records_of
  found (bf s) xs = is_signal _ refl (mark_is _ _ _ BF)
  found (wi s k i) xs = is_write _ refl (mark_is _ _ _ BF) refl (mark_is _ _ _ WI) ∙ ap (λ (j : ℕ). use_of (ascii "write ") k j (E.writer s k i)) (div-add-mod' i 256)
  found (ri s k i) xs = is_read _ refl (mark_is _ _ _ BF) refl (mark_is _ _ _ WI) ∙ ap (λ (j : ℕ). use_of (ascii "read ") k j (E.reader s k i)) (div-add-mod' i 256)

  -- and the others follow it
  follow : (x : Part) (xs : List Part) → drop (size x) (records_of tab E (x ∷ xs)) ≡ records_of tab E xs
  unfolding records_of
  follow (bf s) xs = refl
  follow (wi s k i) xs = refl
  follow (ri s k i) xs = refl

  long : (x : Part) (xs : List Part) → length (records_of tab E (x ∷ xs)) ≡ size x + length (records_of tab E xs)
  unfolding records_of
  long (bf s) xs = omega arith
  long (wi s k i) xs = omega arith
  long (ri s k i) xs = omega arith

  -- EN ends them
  least : (xs : List Part) → 2 ≤ length (records_of tab E xs)
  unfolding records_of
  least [] = omega arith
  least (x ∷ xs) = omega (arith, long x xs, least xs)

-- ---- what is left of a listing

-- the lines of these records, and the last one
abbrev pub lines_from : Table → List Part → List (List ℕ)
lines_from tab left = map (record_line (plan tab)) left ++ total_line (base (plan tab) tab.signals) ∷ []

module _ (tab : Table) (whole : Page) where
  abbrev E : Schedule
  E = plan tab

  -- the bytes that are left are these records, and their lines make the page whole
  pub record Left (left : List Part) (rest : List ℕ) (page : Page) (counted : ℕ) : Type 0 where
    pub stands : rest ≡ records_of tab E left
    pub counts : counted + weights E.count 0 left ≡ base E tab.signals
    pub text : put_all (text_of (lines_from tab left)) page ≡ whole

  -- the record in front, and what is left after it
  pub record Turn (rest : List ℕ) (page : Page) (counted : ℕ) (found : Found) : Type 0 where
    pub within : found.size ≤ length rest
    pub some : 1 ≤ found.size
    pub few : counted + found.count ≤ base E tab.signals
    pub others : List Part
    pub next : {size count : ℕ} {after : Page} → size ≡ found.size → count ≡ found.count → after ≡ put_all (text_of (found.line ∷ [])) page → Left others (drop size rest) after (counted + count)

  module _ (rest : List ℕ) (page : Page) (counted : ℕ) where
    turn_at : (left : List Part) → Left left rest page counted → 2 < length rest → Turn rest page counted (record_in rest)
    unfolding records_of weights
    turn_at [] L h = absurd (omega (arith, ap length L.stands))
    turn_at (x ∷ xs) L h = subst (Turn rest page counted) (sym (ap record_in L.stands ∙ found tab E x xs)) (record {
      within = omega (arith, ap length L.stands, long tab E x xs);
      some = omega arith;
      few = omega (arith, L.counts);
      others = xs;
      next = λ s c t. record {
        stands = ap (λ (n : ℕ). drop n rest) s ∙ ap (drop (size x)) L.stands ∙ follow tab E x xs;
        counts = omega (arith, c, L.counts);
        text = ap (put_all (text_of (lines_from tab xs))) t ∙ sym (put_lines (record_line E x) (lines_from tab xs) page) ∙ L.text;
      };
    })

    end_at : (left : List Part) → Left left rest page counted → length rest ≤ 2 → put_all (text_of (total_line counted ∷ [])) page ≡ whole
    unfolding weights
    end_at [] L h = let q : counted ≡ base E tab.signals = omega (arith, L.counts) in ap (λ (n : ℕ). put_all (text_of (total_line n ∷ [])) page) q ∙ L.text
    end_at (x ∷ xs) L h = absurd (omega (arith, ap length L.stands, long tab E x xs, least tab E xs))

module _ {tab : Table} {whole : Page} {left : List Part} {rest : List ℕ} {page : Page} {counted : ℕ} (L : Left tab whole left rest page counted) where
  pub turn : 2 < length rest → Turn tab whole rest page counted (record_in rest)
  turn h = turn_at tab whole rest page counted left L h

  pub end : length rest ≤ 2 → put_all (text_of (total_line counted ∷ [])) page ≡ whole
  end h = end_at tab whole rest page counted left L h

-- with the line in front of them they are the lines of the table
pub headed : (tab : Table) (p : Page) {h : ℕ} {q : Page} → h ≡ hyper tab → q ≡ put_all (text_of (hyper_line h ∷ [])) p → put_all (text_of (lines_from tab (parts tab))) q ≡ put_all (text_of (table_lines tab)) p
unfolding table_lines
headed tab p e f = ap (put_all (text_of (lines_from tab (parts tab)))) (rw e at f) ∙ sym (put_lines (hyper_line (hyper tab)) (lines_from tab (parts tab)) p)

-- at the start all records are left
pub start : (tab : Table) (schedule : List ℕ) (page : Page) → schedule ≡ bytes_of tab (plan tab) → Left tab (put_all (text_of (lines_from tab (parts tab))) page) (parts tab) schedule page 0
unfolding bytes_of base
start tab schedule page e = record { stands = e; counts = omega (arith, weights_all (plan tab).count 0 tab); text = refl }
