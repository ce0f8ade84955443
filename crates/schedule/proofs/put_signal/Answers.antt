-- `put_signal` meets its contract: the writers after the signal's own record, the readers after them.
use mathlib.Core.Path.{refl}
use mathlib.Core.List.{[], ◌∷◌}
use native.Mathlib.Omega.{arith}
use Rattle.rules.specs.Bytes.{bf}
use Rattle.form.specs.Records.{sides_parts, signal_parts}
use Rattle.form.proofs.Walks.{walked_then}
use Rattle.schedule.specs.Writing.{uses_of}
use Rattle.schedule.proofs.Puts.{bf_put_lem}
use Rattle.schedule.proofs.put_signal.Goals as goal

pub put_side-written-requires : goal.put_side-written-requires
unfolding uses_of
put_side-written-requires c = record { few = omega arith; room = omega arith }

pub put_side-requires : goal.put_side-requires
unfolding uses_of
put_side-requires c = record { few = omega arith; room = omega arith }

pub returns : goal.returns
unfolding sides_parts signal_parts uses_of
returns c = record { is = walked_then _ (bf _ ∷ []) _ _ (bf_put_lem _ _ _ _ refl c.put_bf.ensures) (walked_then _ _ _ _ (c.put_side-written.ensures.is _) (c.put_side.ensures.is _)); many = omega (arith, c.put_side-written.ensures.many, c.put_side.ensures.many) }
