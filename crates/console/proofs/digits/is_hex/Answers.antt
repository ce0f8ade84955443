-- `is_hex` meets its contract: pairs of hex digits, once the tests before have passed. Assumes nothing.
use Rattle.std.proofs.Common.{arith, rules, tests}
use Rattle.std.proofs.lemmas.Grind.{common_steps}
use Rattle.std.proofs.lemmas.Iterator.{YieldsList-from_slice}
use Rattle.std.proofs.lemmas.Iterator.Search.{all_from_yields_List}
use Rattle.std.specs.Char.{is_ascii_hexdigit}
use Rattle.console.specs.Digits.{is_hex}
use Rattle.console.proofs.digits.is_hex.Goals as goal
use Rattle.console.proofs.digits.is_hex.Goals.{then-not-is_empty, else-not-is_empty}

pub returns-then-word-eq0 : goal.returns-then-word-eq0
unfolding is_hex
returns-then-word-eq0 c =
    let e = all_from_yields_List is_ascii_hexdigit _ _ c.all.result c.all.ensures.ran (YieldsList-from_slice c.args.word.now cc) (λ x b q k. search (rules, tests)) in
    elim c.if-not-is_empty.branch [
      | then-not-is_empty w ↦ grind (arith, common_steps)
      | else-not-is_empty w ↦ grind (arith, common_steps)
    ]
