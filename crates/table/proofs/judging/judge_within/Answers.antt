use Rattle.std.proofs.Common.{sym, ◌∙◌}
use Rattle.table.proofs.Says.{says_instances, says_uses, says_clash, says_done}
use Rattle.table.proofs.judging.judge_within.Goals as goal

pub returns-then-all_instances-gt-MOST_INSTANCES : goal.returns-then-all_instances-gt-MOST_INSTANCES
returns-then-all_instances-gt-MOST_INSTANCES c = let p = c.requires in
    says_instances c.args.windowed.tasks _ _ c.args.windowed.windowed p.1 _ p.2 p.3 c.all_instances.ensures c.if-all_instances-gt-MOST_INSTANCES.true

pub returns-then-all_uses-gt-MOST_USES : goal.returns-then-all_uses-gt-MOST_USES
returns-then-all_uses-gt-MOST_USES c = let p = c.requires in
    says_uses c.args.windowed.tasks _ _ c.args.windowed.windowed p.1 _ p.2 p.3 c.all_instances.ensures c.if-all_instances-gt-MOST_INSTANCES.false c.all_uses.ensures c.if-all_uses-gt-MOST_USES.true

pub returns-in-Some : goal.returns-in-Some
returns-in-Some c = let p = c.requires in
    says_clash c.args.windowed.tasks _ _ c.args.windowed.windowed p.1 _ p.2 p.3 c.all_instances.ensures c.if-all_instances-gt-MOST_INSTANCES.false c.all_uses.ensures c.if-all_uses-gt-MOST_USES.false
    (sym c.first_clash.ensures ∙ c.in-Some.is)

pub returns-in-None : goal.returns-in-None
returns-in-None c = let p = c.requires in
    says_done c.args.windowed.tasks _ _ c.args.windowed.windowed p.1 _ p.2 p.3 c.all_instances.ensures c.if-all_instances-gt-MOST_INSTANCES.false c.all_uses.ensures c.if-all_uses-gt-MOST_USES.false
    (sym c.first_clash.ensures ∙ c.in-None.is)
