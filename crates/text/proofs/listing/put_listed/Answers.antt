-- `put_listed` meets its contract, by what planning answered. Assumes nothing.
use Rattle.std.proofs.Common.{sym, ap, ◌∙◌}
use Rattle.rules.specs.Numbers.{told}
use Rattle.text.proofs.Listed.{refuses, refused, listed, planned}
use Rattle.text.proofs.listing.put_listed.Goals as goal

pub put_planned-requires : goal.put_planned-requires
put_planned-requires c = planned _ _ c.plan-answer.result _ c.plan-answer.ensures (ap (λ r. (told r).number) c.in-Ok.is) (sym (ap (λ r. (told r).place) c.in-Ok.is)) c.front.ensures

pub returns-in-Ok-clause-text : goal.returns-in-Ok-clause-text
returns-in-Ok-clause-text c = (c.put_planned.ensures.0, listed _ _ c.plan-answer.result _ c.plan-answer.ensures (ap (λ r. (told r).number) c.in-Ok.is) _ c.put_planned.ensures.1)

pub returns-in-Err-clause-text : goal.returns-in-Err-clause-text
returns-in-Err-clause-text c = (c.put_refused.ensures.0, refused _ _ c.plan-answer.result _ c.plan-answer.ensures (λ z. refuses _ (sym (ap (λ r. (told r).number) c.in-Err.is) ∙ z)) _ c.put_refused.ensures.1)
