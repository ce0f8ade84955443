-- A refusal is handed on, and nothing is filled in. Assumes nothing.
use Rattle.std.proofs.Common.{ap, ◌∙◌}
use Rattle.rules.specs.Numbers.{told}
use Rattle.fields.proofs.Told.{handed_on}
use Rattle.lives.proofs.Says.{refuses}
use Rattle.lives.proofs.list.live_list.Goals as goal

pub returns-in_err-lives : goal.returns-in_err-lives
returns-in_err-lives c = (
  ap told (handed_on c.from_residual.result c.in_err-lives.field-0.0 c.from_residual.ensures) ∙ c.in_err-lives.ensures,
  refuses c.args.table.now c.args.signal _ _ c.in_err-lives.ensures c.args.list.now,
)
