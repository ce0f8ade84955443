-- The listing by what planning answered. Assumes nothing.
use Rattle.std.specs.Prelude.{Result, Ok, Err}
use Prim.Native.Nat.{ℕ}
use mathlib.Core.Path.{◌≡◌, sym, ap, ◌∙◌}
use mathlib.Core.Bool.{not}
use mathlib.Core.List.{List, [], ◌∷◌}
use lib.Dec.{eqb}
use lib.ListN.{length, take}
use borrow.Author.Tests.{eq-eqb, ne_eqb, eqb-true, eqb-false}
use Rattle.rules.specs.Numbers.{Told, tell, told, all_done}
use Rattle.rules.specs.Reading.{table_in, read_says}
use Rattle.rules.specs.Listing.{refused_line, table_lines, text_of, listing}
use Rattle.rules.specs.declared.Refusal.{Refusal}
use Rattle.theory.proofs.Tests.{split}
use Rattle.fields.proofs.Told.{untold, untold_told}
use Rattle.fields.proofs.Whens.{on, off}
use Rattle.console.specs.Page.{Page, put_all}
use Rattle.plan.specs.Gives.{PlanGives}
use Rattle.plan.proofs.Given.{says, says_refused, done}
use Rattle.text.specs.Walk.{Planned}

-- no refusal has the number of an answer that refuses nothing
pub refuses : (e : Refusal) → (told (Err e)).number ≡ all_done → ⊥
refuses e z =
    let place = (told (Err e)).place in
    let k : Ok place ≡ Err e = sym (ap (λ (n : ℕ). untold (tell n place)) z) ∙ untold_told (Err e) in
    cc

module _ (table schedule : List ℕ) (r : Result ℕ Refusal) (after : List ℕ) (g : PlanGives table schedule r after) where
  abbrev refusal : Told → List ℕ
  refusal t = text_of (refused_line t ∷ [])

  -- a table or a plan that was refused
  refused_text : ((told r).number ≡ all_done → ⊥) → refusal (told r) ≡ listing table (length schedule)
  unfolding listing
  refused_text n =
      split (eqb (read_says table).number all_done)
      (λ q.
      let s = says table schedule r after g (eqb-true (read_says table).number all_done q) in
      ap refusal s ∙ sym (ap text_of (off _ _ (ap not q) ∙ on _ _ (ap not (ne_eqb _ _ (λ z. n (ap (λ (t : Told). t.number) s ∙ z)))))))
      (λ q. ap refusal (says_refused table schedule r after g (eqb-false _ _ q)) ∙ sym (ap text_of (on _ _ (ap not q))))

  pub refused : ((told r).number ≡ all_done → ⊥) → (p : Page) {q : Page} → q ≡ put_all (refusal (told r)) p → q ≡ put_all (listing table (length schedule)) p
  refused n p e = e ∙ ap (λ (l : List ℕ). put_all l p) (refused_text n)

  module _ (z : (told r).number ≡ all_done) where
    -- one that was planned
    pub planned : {n : ℕ} {bytes : List ℕ} → n ≡ (told r).place → bytes ≡ take n after → Planned table bytes
    planned e b =
        let d = done table schedule r after g z in
        record { accepted = d.accepted; few = d.passes.in_all; bytes = b ∙ ap (λ (n : ℕ). take n after) e ∙ d.front }

    planned_text : text_of (table_lines (table_in table)) ≡ listing table (length schedule)
    unfolding listing
    planned_text =
        let d = done table schedule r after g z in
        sym (ap text_of (off _ _ (ap not (eq-eqb _ _ d.accepted)) ∙ off _ _ (ap not (eq-eqb _ _ d.done))))

    pub listed : (p : Page) {q : Page} → q ≡ put_all (text_of (table_lines (table_in table))) p → q ≡ put_all (listing table (length schedule)) p
    listed p e = e ∙ ap (λ (l : List ℕ). put_all l p) planned_text
