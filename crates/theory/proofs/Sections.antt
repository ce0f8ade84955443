-- Sections of records: what a section reads is a list of records, each fit to follow those before it, and its bytes are theirs. Assumes nothing.
use Prim.Native.Nat.{ℕ, zero, suc, ◌+◌, ◌-◌, ◌≤◌, ◌<◌}
use mathlib.Core.Path.{◌≡◌, refl, sym, ap, ◌∙◌}
use mathlib.Core.List.{List, [], ◌∷◌, ◌++◌, flat_map, append_assoc, append-nil}
use native.Mathlib.Nat.{add-zero}
use native.Mathlib.Numerals.{add-one}
use native.Mathlib.Omega.{arith}
use lib.ListN.{length, get_or, take, drop, set, length-append, length-set}
use lib.Seq.{drop-drop, drop-append_seam, take-suc-set, append_snoc, get_or-take}
use Rattle.rules.specs.Numbers.{Told}
use Rattle.rules.specs.Records.{Step, End}
use Rattle.rules.specs.Reading.{Section, follow, section, from}
use Rattle.theory.specs.TableBytes.{AreBytes}
use Rattle.theory.proofs.Lists.{All}

-- what follows the bytes that stand at a place
pub after : (bytes : List ℕ) (p : ℕ) (front rest : List ℕ) → drop p bytes ≡ front ++ rest → drop (p + length front) bytes ≡ rest
after bytes p front rest e = sym (drop-drop (length front) p bytes) ∙ ap (drop (length front)) e ∙ drop-append_seam front rest

-- ---- from one end to the next: over these bytes, or refused here or before

pub data Spans (bytes : List ℕ) : List ℕ → End → End → Type 0 where
  over : {ys : List ℕ} {p q : ℕ} → (AreBytes bytes → drop p bytes ≡ ys ++ drop q bytes) → Spans bytes ys (End.at p) (End.at q)
  stopped : {ys : List ℕ} {p : ℕ} (t : Told) → (t.number ≡ 0 → ⊥) → Spans bytes ys (End.at p) (End.refused t)
  before : {ys : List ℕ} (t : Told) → Spans bytes ys (End.refused t) (End.refused t)

pub join : {bytes ys zs : List ℕ} {a b c : End} → Spans bytes ys a b → Spans bytes zs b c → Spans bytes (ys ++ zs) a c
join {ys} {zs} (over f) (over {q = r} g) = over (λ o. f o ∙ ap {B = List ℕ} (λ l. ys ++ l) (g o) ∙ sym (append_assoc ys zs (drop r _)))
join (over f) (stopped t n) = stopped t n
join (stopped t n) (before u) = stopped t n
join (before t) (before u) = before t

-- ---- one kind of record: the step that asks for it, how it is put to those before it, its bytes,
-- what makes it fit to follow them, and what its bytes bound

pub record Kind (A B : Type 0) : Type 1 where
  pub step : B → ℕ → Step A
  pub put : B → A → B
  pub form : A → List ℕ
  pub Fit : B → A → Type 0
  pub Bounded : A → Type 0

module _ {A B : Type 0} (K : Kind A B) where
  abbrev pub puts : B → List A → B
  puts b [] = b
  puts b (x ∷ xs) = puts (K.put b x) xs

  abbrev pub Fitting : B → List A → Type 0
  Fitting b [] = Unit {0}
  Fitting b (x ∷ xs) = K.Fit b x × Fitting (K.put b x) xs

  -- what each record that fits keeps, all keep
  pub puts_keep : (Q : B → Type 0) → ((b : B) (x : A) → K.Fit b x → Q b → Q (K.put b x)) → (b : B) (xs : List A) → Fitting b xs → Q b → Q (puts b xs)
  puts_keep Q keep b [] f q = q
  puts_keep Q keep b (x ∷ xs) f q = puts_keep Q keep (K.put b x) xs f.1 (keep b x f.0 q)

  -- what makes a record fit holds of each
  pub fitting_all : (Q : A → Type 0) → ((b : B) (x : A) → K.Fit b x → Q x) → (b : B) (xs : List A) → Fitting b xs → All Q xs
  fitting_all Q keep b [] f = tt
  fitting_all Q keep b (x ∷ xs) f = (keep b x f.0, fitting_all Q keep (K.put b x) xs f.1)

  -- each record counts as one
  pub puts_count : (count : B → ℕ) → ((b : B) (x : A) → count (K.put b x) ≡ count b + 1) → (b : B) (xs : List A) → count (puts b xs) ≡ count b + length xs
  puts_count count one b [] = sym (add-zero (count b))
  puts_count count one b (x ∷ xs) = omega (arith, puts_count count one (K.put b x) xs, one b x)

  -- records are fit one after the other if the first is, and what it leaves to the others
  pub fitting_from : (Q : B → List A → Type 0) → ((b : B) (x : A) (xs : List A) → Q b (x ∷ xs) → K.Fit b x × Q (K.put b x) xs) → (b : B) (xs : List A) → Q b xs → Fitting b xs
  fitting_from Q next b [] q = tt
  fitting_from Q next b (x ∷ xs) q = let r = next b x xs q in (r.0, fitting_from Q next (K.put b x) xs r.1)

  -- ---- records that are put into a list of so many places, the first `count` of them in use

  pub record Places : Type 0 where
    pub list : B → List A
    pub count : B → ℕ
    pub most : ℕ
    pub put_list : (b : B) (x : A) → list (K.put b x) ≡ set (list b) (count b) x
    pub put_count : (b : B) (x : A) → count (K.put b x) ≡ count b + 1
    pub few : (b : B) (x : A) → K.Fit b x → count b < most

  module _ (P : Places) where
    pub places_few : (b : B) (xs : List A) → Fitting b xs → P.count b ≤ P.most → P.count (puts b xs) ≤ P.most
    places_few = puts_keep (λ b. P.count b ≤ P.most) (λ b x f q. omega (arith, P.few b x f, P.put_count b x))

    places_held : (b : B) (xs : List A) → length (P.list b) ≡ P.most → Fitting b xs → take (P.count (puts b xs)) (P.list (puts b xs)) ≡ take (P.count b) (P.list b) ++ xs
    places_held b [] l f = sym (append-nil _)
    places_held b (x ∷ xs) l f =
        let one : take (P.count (K.put b x)) (P.list (K.put b x)) ≡ take (P.count b) (P.list b) ++ x ∷ [] =
        rw (P.put_list b x, P.put_count b x, add-one) (take-suc-set (P.list b) (P.count b) x (omega (arith, P.few b x f.0))) in
        places_held (K.put b x) xs (rw (P.put_list b x) (length-set (P.list b) (P.count b) x ∙ l)) f.1
        ∙ ap {B = List A} (λ r. r ++ xs) one
        ∙ append_snoc (take (P.count b) (P.list b)) x xs

    -- from none on, each stands at its place
    pub places_at : (d : A) (b : B) (xs : List A) → length (P.list b) ≡ P.most → P.count b ≡ 0 → Fitting b xs → (k : ℕ) → k < length xs → get_or (P.list (puts b xs)) k d ≡ get_or xs k d
    places_at d b xs l z f k h =
        sym (get_or-take (P.count (puts b xs)) (P.list (puts b xs)) k d (omega (arith, puts_count P.count P.put_count b xs)))
        ∙ ap (λ r. get_or r k d) (places_held b xs l f ∙ ap {B = List A} (λ n. take n (P.list b) ++ xs) z)

  module _ (bytes : List ℕ) where
    -- what a step gives is right: a record that fits, with its bytes, or a refusal with its number
    abbrev pub Right : B → ℕ → Step A → Type 0
    Right b p (Step.taken x q) = K.Fit b x × (AreBytes bytes → K.Bounded x × (drop p bytes ≡ K.form x ++ drop q bytes))
    Right b p Step.other = Unit {0}
    Right b p (Step.refused t) = t.number ≡ 0 → ⊥

    pub record Lawful : Type 0 where
      pub right : (b : B) (p : ℕ) → Right b p (K.step b p)
      pub takes : (b : B) (p : ℕ) (x : A) (rest : List ℕ) → K.Fit b x → K.Bounded x → drop p bytes ≡ K.form x ++ rest → K.step b p ≡ Step.taken x (p + length (K.form x))

    -- what was read from an end on
    pub record Walked (b : B) (e : End) (s : Section B) : Type 0 where
      pub records : List A
      pub fit : Fitting b records
      pub read : s.read ≡ puts b records
      pub bounded : AreBytes bytes → All K.Bounded records
      pub spans : Spans bytes (flat_map K.form records) e s.end

    module _ (L : Lawful) where
      pub walked : (n : ℕ) (b : B) (p : ℕ) → Walked b (End.at p) (section K.step K.put n b p)
      unfolding flat_map section
      walked zero b p = record { records = []; fit = tt; read = refl; bounded = λ o. tt; spans = over (λ o. refl) }
      walked (suc n) b p = go (K.step b p) (L.right b p) (walked n)
        where
          go : (s : Step A) → Right b p s → ((c : B) (q : ℕ) → Walked c (End.at q) (section K.step K.put n c q)) → Walked b (End.at p) (follow K.put (section K.step K.put n) b p s)
          go (Step.taken x q) r more =
              let w = more (K.put b x) q in
              record {
                records = x ∷ w.records;
                fit = (r.0, w.fit);
                read = w.read;
                bounded = λ o. ((r.1 o).0, w.bounded o);
                spans = join (over {ys = K.form x} (λ o. (r.1 o).1)) w.spans;
              }
          go Step.other r more = record { records = []; fit = tt; read = refl; bounded = λ o. tt; spans = over (λ o. refl) }
          go (Step.refused t) r more = record { records = []; fit = tt; read = refl; bounded = λ o. tt; spans = stopped t r }

      pub walked_from : (n : ℕ) (b : B) (e : End) → Walked b e (from (section K.step K.put n b) b e)
      walked_from n b (End.at p) = walked n b p
      walked_from n b (End.refused t) = record { records = []; fit = tt; read = refl; bounded = λ o. tt; spans = before t }

      -- records that stand one after the other are all taken
      takes_all : (xs : List A) (m n : ℕ) (b : B) (p : ℕ) (rest : List ℕ) → m ≡ length xs + n → Fitting b xs → All K.Bounded xs → drop p bytes ≡ flat_map K.form xs ++ rest
          → section K.step K.put m b p ≡ section K.step K.put n (puts b xs) (p + length (flat_map K.form xs))
      unfolding flat_map section
      takes_all [] m n b p rest e f w d = let z : m ≡ n = omega arith in rw (z, add-zero p)
      takes_all (x ∷ xs) zero n b p rest e f w d = absurd (omega arith)
      takes_all (x ∷ xs) (suc m) n b p rest e f w d =
          let here = d ∙ append_assoc (K.form x) (flat_map K.form xs) rest in
          let far : p + length (K.form x) + length (flat_map K.form xs) ≡ p + length (K.form x ++ flat_map K.form xs) = omega (arith, length-append (K.form x) (flat_map K.form xs)) in
          rw (L.takes b p x (flat_map K.form xs ++ rest) f.0 w.0 here)
          (takes_all xs m n (K.put b x) (p + length (K.form x)) rest (omega arith) f.1 w.1 (after bytes p (K.form x) (flat_map K.form xs ++ rest) here)
          ∙ ap (section K.step K.put n (puts (K.put b x) xs)) far)

      -- and where the next mark is another, the section ends there
      pub takes_section : (most : ℕ) (xs : List A) (b : B) (p : ℕ) (rest : List ℕ) → length xs ≤ most → Fitting b xs → All K.Bounded xs → drop p bytes ≡ flat_map K.form xs ++ rest
          → ((c : B) (q : ℕ) → drop q bytes ≡ rest → K.step c q ≡ Step.other)
          → section K.step K.put (suc most) b p ≡ record { read = puts b xs; end = End.at (p + length (flat_map K.form xs)) }
      unfolding section
      takes_section most xs b p rest l f w d o =
          takes_all xs (suc most) (suc (most - length xs)) b p rest (omega arith) f w d
          ∙ rw (o (puts b xs) (p + length (flat_map K.form xs)) (after bytes p (flat_map K.form xs) rest d))
