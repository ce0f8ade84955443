use Rattle.std.proofs.Common.{◌≡◌, ℕ, Bool, true, false, not, ◌||◌, arith, rules, tests, refl}
use Rattle.std.proofs.lemmas.Iterator.{cases_from_all, YieldsList-from_range}
use Rattle.rules.specs.Reading.{task_of, writes_in}
use Rattle.table.specs.Forms.{meets, apart_below}
use Rattle.table.proofs.Clashes.{all_is_every}
use Rattle.table.proofs.apart.apart_below.Goals as goal

pub returns : goal.returns
unfolding apart_below
returns c = let a = c.args in
    let right : ℕ → Bool = λ k. (not (writes_in a.grid.now a.signal k) || not (meets (task_of a.windowed.tasks k) (task_of a.windowed.tasks a.task))) in
    all_is_every right a.task _
    (cases_from_all _ _ _ (λ k. right k ≡ true) (λ k. right k ≡ false) c.all.ensures.ran (YieldsList-from_range 0 a.task a.task refl (omega arith))
    (λ x q k. (search rules, grind (arith, tests)))
    (λ x q k. grind (arith, tests)))
