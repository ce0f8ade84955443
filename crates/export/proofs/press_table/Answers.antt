-- The number and the place of what was read. Assumes nothing.
use Rattle.std.proofs.Common.{ℕ, Result, Ok, Err, ◌≡◌, refl, ap, ◌∙◌}
use Rattle.std.specs.Result.{result_and}
use Rattle.rules.specs.Numbers.{Told, told}
use Rattle.rules.specs.declared.Refusal.{Refusal}
use Rattle.table.specs.Said.{answer_of}
use Rattle.table.proofs.Exact.{answer_says}
use Rattle.export.proofs.press_table.Goals as goal

same : (x : Result ℕ Refusal) → result_and x (Ok 0) ≡ answer_of x
same (Ok h) = refl
same (Err e) = refl

pub returns : goal.returns
returns c =
    let says = ap told (c.and.ensures ∙ same c.read_table-read.result.hyper) ∙ answer_says c.args.table.now c.read_table-read.result c.read_table-read.ensures in
    (c.tell.ensures.0 ∙ ap (λ (t : Told). t.number) says, c.tell.ensures.1 ∙ ap (λ (t : Told). t.place) says)
