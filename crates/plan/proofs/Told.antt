-- What is answered of a table's bytes, where they are refused and where they are accepted. Assumes nothing.
use Rattle.std.proofs.Common.{List, ℕ, ◌≡◌, Err, ap, sym, ◌∙◌, length}
use borrow.Author.Tests.{eq-eqb}
use Rattle.rules.specs.Windows.{Table}
use Rattle.rules.specs.Numbers.{Told, told, all_done}
use Rattle.rules.specs.Answers.{plan_says}
use Rattle.rules.specs.Reading.{table_in, read_says}
use Rattle.rules.specs.declared.Refusal.{Refusal}
use Rattle.theory.proofs.Tests.{past, here}
use Rattle.accept.proofs.Read.{is_refused}
use Rattle.plan.specs.Planning.{plan_told, planned_into, plan_out}

module _ (bytes out : List ℕ) where
  pub refused : (e : Refusal) → told (Err e) ≡ read_says bytes → (told (Err e) ≡ plan_told bytes (length out)) × (out ≡ plan_out bytes out)
  unfolding plan_told plan_out
  refused e h = let q = is_refused bytes e h in (h ∙ sym (past _ _ _ q), sym (past _ _ _ q))

  pub accepted : {tab : Table} → (read_says bytes).number ≡ all_done → tab ≡ table_in bytes → (x : Told) (last : List ℕ) → x ≡ plan_says tab (length out) → last ≡ planned_into tab out
      → (x ≡ plan_told bytes (length out)) × (last ≡ plan_out bytes out)
  unfolding plan_told plan_out
  accepted d t x last a b =
      let q = eq-eqb (read_says bytes).number 0 d in (
        a ∙ ap (λ tab. plan_says tab (length out)) t ∙ sym (here _ _ _ q),
        b ∙ ap (λ tab. planned_into tab out) t ∙ sym (here _ _ _ q),
      )
