use Rattle.std.proofs.Common.{◌≡◌, drop}
use Rattle.console.specs.Steps.{◌>>=◌}
use Rattle.console.specs.Digits.{value_of, limited}
use Rattle.console.proofs.digits.number.Given as goal

-- the digits that are left make the number of those taken the whole number
abbrev pub invariant-loop-b : goal.invariant-loop-b
invariant-loop-b l = (value_of l.so_far (drop l.b-index l.word) >>= limited l.most) ≡ (value_of 0 l.word >>= limited l.most)
