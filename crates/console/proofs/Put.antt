-- What is put one after the other. Assumes nothing.
use mathlib.Core.Path.{◌≡◌}
use mathlib.Core.List.{List, ◌++◌}
use Prim.Native.Nat.{ℕ}
use Rattle.std.proofs.lemmas.List.Sums.{fold-append}
use Rattle.console.specs.Page.{Page, put_one, put_all}

-- text after text
pub put_append : (a b : List ℕ) (p : Page) → put_all (a ++ b) p ≡ put_all b (put_all a p)
put_append a b p = fold-append (λ q x. put_one x q) p a b
