-- Steps that may give nothing: what comes after the first that does is not asked. Assumes nothing.
use Rattle.std.specs.Prelude.{Option, option_and_then}

infixl 10 ◌>>=◌
abbrev pub ◌>>=◌ : {A B : Type 0} → Option A → (A → Option B) → Option B
o >>= f = option_and_then f o
