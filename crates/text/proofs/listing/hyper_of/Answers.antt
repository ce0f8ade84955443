-- `hyper_of` meets its contract. Assumes nothing.
use Rattle.std.proofs.Common.{ℕ, ◌≡◌, Result, Ok, Err, refl, ◌∙◌}
use Rattle.std.specs.Result.{result_unwrap_or}
use Rattle.rules.specs.declared.Refusal.{Refusal}
use Rattle.table.specs.Said.{hyper_or_0}
use Rattle.table.proofs.Exact.{hyper_read_lem}
use Rattle.text.proofs.listing.hyper_of.Goals as goal

same : (x : Result ℕ Refusal) → result_unwrap_or x 0 ≡ hyper_or_0 x
same (Ok h) = refl
same (Err e) = refl

pub returns : goal.returns
returns c = c.unwrap_or.ensures ∙ same c.read_table.result.hyper ∙ hyper_read_lem c.args.table.now c.read_table.result c.read_table.ensures c.requires
