use Rattle.std.proofs.Common.{arith, rules, tests}
use Rattle.std.proofs.lemmas.Iterator.{first_from_Range}
use Rattle.table.proofs.Clashes.{Apart, Clash, clash_found}
use Rattle.table.proofs.apart.first_clash.Goals as goal

pub returns : goal.returns
returns c = let a = c.args in
    clash_found a.windowed.tasks a.signals a.grid.now _
    (first_from_Range _ _ _ _ (Clash a.windowed.tasks a.signals a.grid.now) (Apart a.windowed.tasks a.signals a.grid.now) c.find.ensures.ran
    (λ x q k. grind (arith, tests))
    (λ x q k. (search rules, grind (arith, tests))))
