-- C is given the same: specs/FromC.antt, proved.
use Prim.Native.Nat.{ℕ}
use mathlib.Core.Path.{◌≡◌, sym, ◌∙◌}
use Rattle.rules.specs.Numbers.{Told, tell}
use Rattle.table.proofs.Exact.{answer_says}
use Rattle.promises.specs.FromC.{SameFromC}

-- what is told is its number and place
parts : (t : Told) (number place : ℕ) → number ≡ t.number → place ≡ t.place → t ≡ tell number place
parts t number place e f = λ i. tell (sym e i) (sym f i)

pub same_from_C : SameFromC
same_from_C = record {
  table = λ bytes number place p r g. answer_says bytes r g ∙ parts _ number place p.0 p.1;
  plan = λ table out number place after p r left g. (g.0 ∙ parts _ number place p.0 p.1, g.1 ∙ sym p.2);
  check = λ table schedule number place p r g. g ∙ parts _ number place p.0 p.1;
  live = λ table signal list number place after p r left g. (g.0 ∙ parts _ number place p.0 p.1, g.1 ∙ sym p.2);
}
