-- What stands at a place after a store at the same or at another place. Assumes nothing.
use Prim.Native.Nat.{ℕ}
use mathlib.Core.Path.{◌≡◌, refl, sym, ap, ◌∙◌}
use native.Mathlib.Omega.{arith}
use lib.ListN.{length-set}
use lib.Seq.{get_or-set_same, get_or-set_other}
use Rattle.rules.specs.Windows.{Table}
use Rattle.rules.specs.Meaning.{Content, word}
use Rattle.rules.specs.Stores.{Memory, Place, in_words, nowhere, get, put, word_in}
use Rattle.theory.specs.Places.{Sized, Inside, Apart}

-- nothing is stored nowhere
pub nowhere_apart : (p q : Place) → p ≡ nowhere → Apart p q
nowhere_apart p q e = rw e tt

pub somewhere_apart : (p q : Place) → ((p ≡ nowhere → ⊥) → Apart p q) → Apart p q
somewhere_apart (in_words a) q f = f (λ e. let z : ◌≡◌ {A = ℕ} 0 1 = cc in omega arith)
somewhere_apart nowhere q f = tt

pub put_other : (m : Memory) (p q : Place) (c : Content) → Apart p q → get (put m p c) q ≡ get m q
unfolding put get
put_other m (in_words a) (in_words b) c f = ap word (get_or-set_other m.block a b (word_in c) 0 (λ e. f (sym e)))
put_other m (in_words a) nowhere c f = refl
put_other m nowhere q c f = refl

module _ (tab : Table) where
  pub put_sized : (m : Memory) (p : Place) (c : Content) → Sized tab m → Sized tab (put m p c)
  unfolding put
  put_sized m (in_words a) c z = length-set m.block a (word_in c) ∙ z
  put_sized m nowhere c z = z

  pub put_same : (m : Memory) (p : Place) (c : Content) → Sized tab m → Inside tab p → get (put m p c) p ≡ c
  unfolding put get
  put_same m (in_words a) (word w) z i = ap word (get_or-set_same m.block a w 0 (omega arith))
  put_same m nowhere c z i = absurd i
