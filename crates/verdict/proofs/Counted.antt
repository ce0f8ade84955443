-- A schedule whose form is right, of any table: its records are counted, and where it passes the check is done.
use mathlib.Core.Bool.{Bool, true}
use mathlib.Core.List.{List}
use mathlib.Core.Path.{◌≡◌, sym, ◌∙◌}
use Prim.Native.Nat.{ℕ, ◌≤◌}
use native.Mathlib.Omega.{arith}
use lib.Dec.{ltb, eqb}
use lib.ListN.{length}
use borrow.Author.Tests.{eqb-true, ltb-false, le-ltb}
use Rattle.rules.specs.Windows.{Table}
use Rattle.rules.specs.Table.{Fits}
use Rattle.rules.specs.Schedule.{room, base, Passes}
use Rattle.rules.specs.Bytes.{parts, schedule_length, schedule_in}
use Rattle.rules.specs.Numbers.{tell, all_done}
use Rattle.rules.specs.Answers.{whole_says, check_says}
use Rattle.theory.specs.Sweep.{Counted}
use Rattle.theory.proofs.Checked.{when_zero, when_false, records_zero, end_zero, right_counted, whole_done, check_sound}
use Rattle.form.specs.Form.{form_says}
use Rattle.form.proofs.Parted.{check_rest}

module _ (tab : Table) (bytes : List ℕ) (e : (form_says tab bytes).number ≡ all_done) where
  pub form_counted : Counted tab (schedule_in tab bytes) × (schedule_length tab ≤ length bytes)
  unfolding form_says schedule_length
  form_counted =
      let (a, b) = records_zero tab bytes (parts tab) _ e in
      let (c, d, f) = end_zero tab bytes _ b in
      let g = when_zero (ltb (room tab) (base (schedule_in tab bytes) tab.signals)) _ _ (λ z. omega arith) f in
      (right_counted tab bytes a (ltb-false (room tab) (base (schedule_in tab bytes) tab.signals) g.0), omega arith)

  pub form_passed : Fits tab → Passes tab (schedule_in tab bytes) → check_says tab bytes ≡ tell all_done 0
  unfolding whole_says
  form_passed F P =
      check_rest tab bytes e
      ∙ sym (when_false (ltb (room tab) (base (schedule_in tab bytes) tab.signals)) _ _ (le-ltb (room tab) (base (schedule_in tab bytes) tab.signals) P.in_all))
      ∙ whole_done tab F (schedule_in tab bytes) P

  -- a check that is done has place 0
  pub form_done : Fits tab → {r : Bool} → r ≡ eqb (check_says tab bytes).number all_done → r ≡ true → tell all_done 0 ≡ check_says tab bytes
  form_done F q t = sym (form_passed F (check_sound tab bytes (eqb-true (check_says tab bytes).number all_done (sym q ∙ t))).1)
