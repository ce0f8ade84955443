use Rattle.std.proofs.Common.{◌≡◌, ℕ, Bool, true, false, not, ◌||◌, arith, rules, tests, refl}
use Rattle.std.proofs.lemmas.Iterator.{cases_from_all, YieldsList-from_range}
use Rattle.rules.specs.Reading.{writes_in}
use Rattle.table.specs.Forms.{apart_below, publish_apart}
use Rattle.table.proofs.Clashes.{all_is_every}
use Rattle.table.proofs.apart.publish_apart.Goals as goal

pub returns : goal.returns
unfolding publish_apart
returns c = let a = c.args in
    let right : ℕ → Bool = λ l. (not (writes_in a.grid.now a.signal l) || apart_below a.windowed.tasks (writes_in a.grid.now a.signal) l) in
    all_is_every right a.windowed.tasks.count _
    (cases_from_all _ _ _ (λ k. right k ≡ true) (λ k. right k ≡ false) c.all.ensures.ran (YieldsList-from_range 0 a.windowed.tasks.count a.windowed.tasks.count refl (omega arith))
    (λ x q k. (search rules, grind (arith, tests)))
    (λ x q k. grind (arith, tests)))
