-- Up to the last index an access fits, and past it none does.
use native.Mathlib.Omega.{arith}
use borrow.Author.Tests.{lt-ltb, le-leb, leb-true, ltb-true}
use mathlib.Core.Path.{◌≡◌}
use Prim.Native.Nat.{ℕ, ◌+◌, ◌≤◌, ◌<◌}
use lib.Dec.{leb, ltb}
use Rattle.rules.specs.Table.{most_uses}
use Rattle.state.specs.Fitness.{in_uses}
use Rattle.theory.proofs.Tests.{agree, both, and_is}
use Rattle.state.proofs.last_first.Goals as goal

up_to : (count last : ℕ) → ((first : ℕ) → first ≤ last → (first < most_uses) × (first + count ≤ most_uses)) → ((first : ℕ) → first < most_uses → first + count ≤ most_uses → first ≤ last)
    → (first : ℕ) → leb first last ≡ in_uses count first
up_to count last inside past first =
    agree
    (λ e. let (a, b) = inside first (leb-true first last e) in and_is (lt-ltb first most_uses a) (le-leb (first + count) most_uses b))
    (λ e. let (a, b) = both (ltb first most_uses) (leb (first + count) most_uses) e in le-leb first last (past first (ltb-true first most_uses a) (leb-true (first + count) most_uses b)))

pub returns : goal.returns
returns c = up_to _ _ (λ first h. (omega arith, omega arith)) (λ first a b. omega arith)
