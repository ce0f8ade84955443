-- `users::Users::records` meets its contract.
use mathlib.Core.Path.{sym, ◌∙◌}
use Rattle.form.specs.Records.{users_of}
use Rattle.form.proofs.Steps.{all_times, no_times}
use Rattle.form.proofs.users.Users.records.Goals as goal

pub returns-then-permitted : goal.returns-then-permitted
unfolding users_of
returns-then-permitted c = all_times _ _ (sym c.permitted.ensures ∙ c.if-permitted.true)

pub returns-else-permitted : goal.returns-else-permitted
unfolding users_of
returns-else-permitted c = no_times _ _ (sym c.permitted.ensures ∙ c.if-permitted.false)
