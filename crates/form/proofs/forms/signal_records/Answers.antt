-- `forms::signal_records` meets its contract: the signal's own record, its writers', and its readers'.
use mathlib.Core.List.{[], ◌∷◌}
use mathlib.Core.Path.{refl, sym, ◌∙◌}
use Rattle.std.proofs.lemmas.Result.{err_from_is_err_and}
use Rattle.rules.specs.Bytes.{bf}
use Rattle.form.specs.Records.{signal_parts, sides_parts}
use Rattle.form.proofs.Walks.{walked_one, walked_then, walked_past}
use Rattle.form.proofs.forms.signal_records.Goals as goal

pub returns-in_err-own : goal.returns-in_err-own
unfolding signal_parts
returns-in_err-own c = let p = err_from_is_err_and c.from_residual.result c.from_residual.ensures.1 in
    rw (p.1, p.2) (walked_past _ (bf _ ∷ []) _ _ _ (λ x. refl) (sym c.in_err-own.was ∙ c.signal_record.ensures ∙ sym (walked_one _ (bf _) _)))

pub returns-in_err-written : goal.returns-in_err-written
unfolding signal_parts sides_parts
returns-in_err-written c = let p = err_from_is_err_and c.from_residual-in_err-written.result c.from_residual-in_err-written.ensures.1 in
    rw (p.1, p.2)
    (walked_then _ (bf _ ∷ []) _ _ (sym c.in_ok-own.was ∙ c.signal_record.ensures ∙ sym (walked_one _ (bf _) _))
    (walked_past _ _ _ _ _ (λ x. refl) (sym c.in_err-written.was ∙ c.side_records.ensures)))

pub returns : goal.returns
unfolding signal_parts sides_parts
returns c = walked_then _ (bf _ ∷ []) _ _ (sym c.in_ok-own.was ∙ c.signal_record.ensures ∙ sym (walked_one _ (bf _) _))
    (walked_then _ _ _ _ (sym c.in_ok-written.was ∙ c.side_records.ensures) c.side_records-2.ensures)
