-- A schedule whose form is right: its records are counted, and it passes exactly if no signal's pass meets a mistake.
use Rattle.std.specs.Prelude.{Option, Result, Ok, Err}
use mathlib.Core.Bool.{Bool, true}
use mathlib.Core.List.{List}
use mathlib.Core.Path.{◌≡◌, sym, ap, ◌∙◌}
use Prim.Native.Nat.{ℕ, ◌≤◌}
use native.Mathlib.Omega.{arith}
use lib.Dec.{ltb, eqb}
use lib.ListN.{length}
use borrow.Author.Tests.{eqb-true, ltb-false, le-ltb}
use Rattle.rules.specs.Windows.{Table}
use Rattle.rules.specs.Schedule.{room, base, Passes}
use Rattle.rules.specs.Bytes.{parts, schedule_length, schedule_in}
use Rattle.rules.specs.Numbers.{Told, told, tell, all_done, wrong_reader, shared}
use Rattle.rules.specs.Answers.{first_says, sent_wrong, sharing, whole_says, check_says}
use Rattle.rules.specs.declared.Refusal.{Refusal}
use Rattle.accept.specs.Accepts.{its_table}
use Rattle.accept.specs.declared.Accepted.{Accepted}
use Rattle.fields.proofs.Told.{broke}
use Rattle.theory.specs.Sweep.{Counted}
use Rattle.theory.proofs.Tests.{agree}
use Rattle.theory.proofs.Checked.{when_zero, when_false, records_zero, end_zero, right_counted, whole_done, check_sound}
use Rattle.form.specs.Form.{form_says}
use Rattle.form.proofs.Parted.{check_rest}
use Rattle.sweep.specs.Pass.{all_swept}
use Rattle.sweep.proofs.Accepts.{accepts}
use Rattle.faults.specs.Faults.{placed}

-- what refuses nothing has number 0, and a rule that broke another
pub done_said : {r : Result ℕ Refusal} {p : ℕ} {u : Told} → told r ≡ u → r ≡ Ok p → u.number ≡ all_done
done_said e q = ap (λ (t : Told). t.number) (sym e) ∙ ap (λ r. (told r).number) q

pub broken_said : {r : Result ℕ Refusal} {x : Refusal} {u : Told} → told r ≡ u → r ≡ Err x → u.number ≡ all_done → ⊥
broken_said {r} {x} e q z = omega (arith, broke x, ap (λ r. (told r).number) q, ap (λ (t : Told). t.number) e)

module _ (a : Accepted) (bytes : List ℕ) (e : (form_says (its_table a) bytes).number ≡ all_done) where
  abbrev tab : Table
  tab = its_table a

  form_counted : Counted tab (schedule_in tab bytes) × (schedule_length tab ≤ length bytes)
  unfolding form_says schedule_length
  form_counted =
      let (r, b) = records_zero tab bytes (parts tab) _ e in
      let (c, d, f) = end_zero tab bytes _ b in
      let g = when_zero (ltb (room tab) (base (schedule_in tab bytes) tab.signals)) _ _ (λ z. omega arith) f in
      (right_counted tab bytes r (ltb-false (room tab) (base (schedule_in tab bytes) tab.signals) g.0), omega arith)

  -- its records are counted, and its bytes reach to its end
  pub counted : Counted tab (schedule_in tab bytes)
  counted = form_counted.0

  pub whole : schedule_length tab ≤ length bytes
  whole = form_counted.1

  pub form_passed : Passes tab (schedule_in tab bytes) → check_says tab bytes ≡ tell all_done 0
  unfolding whole_says
  form_passed P =
      check_rest tab bytes e
      ∙ sym (when_false (ltb (room tab) (base (schedule_in tab bytes) tab.signals)) _ _ (le-ltb (room tab) (base (schedule_in tab bytes) tab.signals) P.in_all))
      ∙ whole_done tab a.fits (schedule_in tab bytes) P

  -- a check that is done has place 0
  pub form_done : {r : Bool} → r ≡ eqb (check_says tab bytes).number all_done → r ≡ true → tell all_done 0 ≡ check_says tab bytes
  form_done q t = sym (form_passed (check_sound tab bytes (eqb-true (check_says tab bytes).number all_done (sym q ∙ t))).1)

  abbrev shared_rest : Told
  shared_rest = first_says tab (sharing tab (schedule_in tab bytes)) shared (parts tab) (tell all_done 0)

  -- 21, then 22, then done
  pub wrong_says : {r f : Option ℕ} → ((n : ℕ) (rest : Told) → placed r n rest ≡ first_says tab (sent_wrong tab (schedule_in tab bytes)) n (parts tab) rest) → r ≡ f
      → placed f wrong_reader shared_rest ≡ check_says tab bytes
  wrong_says s q = ap (λ (f : Option ℕ). placed f wrong_reader shared_rest) (sym q) ∙ s wrong_reader shared_rest ∙ sym (check_rest tab bytes e)

  pub shared_says : {r f : Option ℕ} → ((n : ℕ) (rest : Told) → placed r n rest ≡ first_says tab (sharing tab (schedule_in tab bytes)) n (parts tab) rest) → r ≡ f
      → placed f shared (tell all_done 0) ≡ shared_rest
  shared_says s q = ap (λ (f : Option ℕ). placed f shared (tell all_done 0)) (sym q) ∙ s shared (tell all_done 0)

  -- what the pass over all signals says is what the check says
  pub pass_says : {r : Bool} → r ≡ all_swept tab bytes a.signals.count → r ≡ eqb (check_says tab bytes).number all_done
  pass_says q =
      let exact = accepts a bytes counted in
      agree
      (λ s. ap (λ (t : Told). eqb t.number all_done) (form_passed (exact.0 (sym q ∙ s))))
      (λ b. q ∙ exact.1 (check_sound tab bytes (eqb-true (check_says tab bytes).number all_done b)).1)
