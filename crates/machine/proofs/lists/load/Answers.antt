-- Loading: the table refused, the schedule refused, or both accepted.
use mathlib.Core.Path.{◌≡◌, refl, sym, ap, ◌∙◌}
use Rattle.std.specs.Prelude.{Result, Ok}
use Prim.Native.Nat.{ℕ}
use Rattle.rules.specs.Numbers.{told}
use Rattle.rules.specs.declared.Refusal.{Refusal}
use Rattle.fields.proofs.Told.{handed_on}
use Rattle.verdict.proofs.Loaded.{load_refused, load_checked}
use Rattle.machine.proofs.Load.{broken_loads, both_checked, accepted_loads}
use Rattle.machine.proofs.lists.load.Goals as goal

pub returns-in_err-accepted : goal.returns-in_err-accepted
returns-in_err-accepted c =
    let e = handed_on c.from_residual.result c.in_err-accepted.field-0.0 c.from_residual.ensures in
    rw e (broken_loads _ _ _ _ (load_refused _ _ _ c.in_err-accepted.ensures))

pub returns-in_err-done : goal.returns-in_err-done
returns-in_err-done c =
    let e = handed_on c.from_residual-in_err-done.result c.in_err-done.field-0.0 c.from_residual-in_err-done.ensures in
    let q = ap told (sym c.in_err-done.was) ∙ load_checked _ _ c.in_ok-accepted.ensures.0 c.in_ok-accepted.ensures.1 c.check_with.ensures in
    rw e (broken_loads _ _ _ _ q)

pub start-requires : goal.start-requires
start-requires c = let a = c.in_ok-accepted in
    both_checked _ a.accepted a.ensures _ c.check_with.result c.check_with.ensures (ap (λ (x : Result ℕ Refusal). (told x).number) c.in_ok-done.was)

pub returns : goal.returns
returns c = let a = c.in_ok-accepted in
    accepted_loads _ a.accepted a.ensures _ (Ok c.in_ok-done.done) (ap told (sym c.in_ok-done.was) ∙ c.check_with.ensures) refl _ _ c.start.ensures
