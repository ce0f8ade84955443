-- What `accept` says of a table, and then the check of the schedule, is what loading says.
use Rattle.std.proofs.Common.{List, ℕ, ◌≡◌, not, Err, ap, sym, ◌∙◌}
use borrow.Author.Tests.{eq-eqb}
use Rattle.rules.specs.Windows.{Table}
use Rattle.rules.specs.Numbers.{Told, told, all_done}
use Rattle.rules.specs.Answers.{check_says}
use Rattle.rules.specs.Reading.{table_in, read_says}
use Rattle.rules.specs.Loading.{load_says}
use Rattle.rules.specs.declared.Refusal.{Refusal}
use Rattle.fields.proofs.Whens.{on, off}
use Rattle.accept.proofs.Read.{is_refused}

module _ (table schedule : List ℕ) where
  -- the table is refused
  pub load_refused : (e : Refusal) → told (Err e) ≡ read_says table → told (Err e) ≡ load_says table schedule
  unfolding load_says
  load_refused e h = h ∙ sym (on _ _ (ap not (is_refused table e h)))

  -- the table is accepted
  pub load_checked : {tab : Table} → (read_says table).number ≡ all_done → tab ≡ table_in table → {t : Told} → t ≡ check_says tab schedule → t ≡ load_says table schedule
  unfolding load_says
  load_checked d i c = c ∙ ap (λ (x : Table). check_says x schedule) i ∙ sym (off _ _ (ap not (eq-eqb _ _ d)))
