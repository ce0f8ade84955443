-- Loading from bytes: what the code's steps give, by what was refused. Assumes nothing.
use Rattle.std.specs.Prelude.{Result, Err}
use native.Mathlib.Omega.{arith}
use Rattle.fields.proofs.Told.{broke}
use Prim.Native.Nat.{ℕ}
use mathlib.Core.Path.{◌≡◌, sym, ap, subst, ◌∙◌}
use mathlib.Core.List.{List}
use lib.ListN.{length}
use borrow.Author.Tests.{eq-eqb, ne_eqb}
use Rattle.rules.specs.Windows.{hyper}
use Rattle.rules.specs.Table.{Fits}
use Rattle.rules.specs.Numbers.{Told, told}
use Rattle.rules.specs.Answers.{check_says}
use Rattle.rules.specs.Loading.{load_says}
use Rattle.rules.specs.declared.Refusal.{Refusal}
use Rattle.theory.proofs.Laid.{bytes_length}
use Rattle.theory.proofs.Checked.{check_sound}
use Rattle.accept.specs.Accepts.{its_table, IsAccepted}
use Rattle.accept.specs.declared.Accepted.{Accepted}
use Rattle.verdict.proofs.Loaded.{load_checked}
use Rattle.machine.specs.declared.Machine.{Machine}
use Rattle.machine.specs.Calls.{answered}
use Rattle.machine.specs.Started.{Given, given, given_of, tab, made, started, Checked}
use Rattle.machine.specs.Load.{given_by, load_leaves, Loads}

-- what the check of a schedule has for loading
pub checked : (g : Given) → Fits (tab g) → g.hyper ≡ hyper (tab g) → (check_says (tab g) g.schedule).number ≡ 0 → Checked g
checked g F h accepted =
    let (b, A) = check_sound (tab g) g.schedule accepted in
    record { fits = F; hyper_is = h; whole = ap length b ∙ bytes_length (tab g) (made g); in_all = A.in_all }

-- ---- the results, by what was refused

module _ (table schedule : List ℕ) (m : Machine) where
  pub refused_stays : ((load_says table schedule).number ≡ 0 → ⊥) → load_leaves m table schedule ≡ m
  unfolding load_leaves
  refused_stays n = rw (ne_eqb (load_says table schedule).number 0 n)

  pub refused_loads : (a : Result ℕ Refusal) → told a ≡ load_says table schedule → ((told a).number ≡ 0 → ⊥) → Loads m table schedule (answered a m)
  refused_loads a e n = (e, sym (refused_stays (subst (λ (t : Told). t.number ≡ 0 → ⊥) e n)))

  -- a rule that broke is never done
  pub broken_loads : (e : Refusal) → told (Err e) ≡ load_says table schedule → Loads m table schedule (answered (Err e) m)
  broken_loads e h = refused_loads (Err e) h (λ z. let b = broke e in let n : (told (Err e)).number ≡ 0 = z in omega arith)

  accepted_starts : (load_says table schedule).number ≡ 0 → load_leaves m table schedule ≡ started (given_by table schedule)
  unfolding load_leaves
  accepted_starts e = rw (eq-eqb (load_says table schedule).number 0 e)

-- the table and the schedule are accepted
module _ (table : List ℕ) (a : Accepted) (says : IsAccepted table a) (schedule : List ℕ) (r : Result ℕ Refusal) (check : told r ≡ check_says (its_table a) schedule) (passed : (told r).number ≡ 0) where
  pub both_checked : Checked (given_of a schedule)
  both_checked = checked (given_of a schedule) a.fits a.own (subst (λ (t : Told). t.number ≡ 0) check passed)

  given_is : given_of a schedule ≡ given_by table schedule
  given_is =
      let h = a.own ∙ ap hyper says.1 in
      λ i. given (says.2 i) (says.3 i) (says.4 i) (h i) schedule

  pub accepted_loads : (m n : Machine) → n ≡ started (given_of a schedule) → Loads m table schedule (answered r n)
  accepted_loads m n e =
      let said = load_checked table schedule says.0 says.1 check in
      (said, e ∙ ap started given_is ∙ sym (accepted_starts table schedule m (subst (λ (t : Told). t.number ≡ 0) said passed)))
