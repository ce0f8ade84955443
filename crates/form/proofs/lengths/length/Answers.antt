-- `lengths::length` meets its contract.
use mathlib.Core.Path.{refl, ap, ap₂, ◌∙◌}
use Prim.Native.Nat.{◌+◌}
use Rattle.rules.specs.Words.{total}
use Rattle.form.specs.Records.{signal_bytes}
use Rattle.form.proofs.Parted.{by_periods}
use Rattle.form.proofs.Tables.{length_is}
use Rattle.form.proofs.lengths.length.Goals as goal

pub returns : goal.returns
returns c = let a = c.args.accepted.now in let own = by_periods a.tasks a.signals a.grid a.own in
    ap (λ n. n + 2) (c.signals_length.ensures.is ∙ ap₂ (λ g t. total (signal_bytes g c.new-users.result.instances t) a.signals.count) c.new-users.ensures.grid c.new-users.ensures.tasks) ∙ length_is a.tasks a.signals _ _ _ own c.new-users.ensures.instances _ refl
