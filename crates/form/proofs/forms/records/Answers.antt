-- `forms::records` meets its contract: the signals below s are walked, or a record is wrong and none after it counts.
use mathlib.Core.Path.{refl, sym, ◌∙◌}
use Prim.Native.Nat.{◌*◌, ◌≤◌}
use native.Mathlib.Omega.{arith}
use Rattle.std.proofs.lemmas.Result.{err_from_is_err_and}
use Rattle.rules.specs.Table.{most_elements}
use Rattle.form.specs.Records.{parts_in}
use Rattle.form.proofs.Walks.{walked_none, walked_turn, walked_stopped}
use Rattle.form.proofs.Running.{sum_small}
use Rattle.form.proofs.forms.records.Goals as goal

pub loop-s-init : goal.loop-s-init
unfolding parts_in
loop-s-init c = walked_none _ _ _

pub signal_records-requires : goal.signal_records-requires
signal_records-requires c = let h : c.loop-s.place.sum ≤ most_elements * c.loop-s.s = sum_small _ _ _ _ _ c.loop-s.invariant in
    (omega arith, omega arith)

pub returns-in_err-place : goal.returns-in_err-place
unfolding parts_in
returns-in_err-place c = let p = err_from_is_err_and c.from_residual.result c.from_residual.ensures.1 in
    rw (p.1, p.2)
    (walked_stopped _ _ _ _ _ _ (λ x. refl) c.loop-s-test.true
    (walked_turn _ _ _ _ c.loop-s.invariant (sym c.in_err-place.was ∙ c.signal_records.ensures)))

pub loop-s-preserved : goal.loop-s-preserved
unfolding parts_in
loop-s-preserved c = walked_turn _ _ _ _ c.loop-s.invariant (sym c.in_ok-place.was ∙ c.signal_records.ensures)
