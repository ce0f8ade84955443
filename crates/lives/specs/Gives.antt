-- The contracts of `live_list` and `lent`. Assumes nothing.
use Rattle.std.specs.Prelude.{ℕ, min, ◌≡◌, List, length, replicate, Result}
use Rattle.rules.specs.Table.{most_lent}
use Rattle.rules.specs.Numbers.{told}
use Rattle.rules.specs.declared.Refusal.{Refusal}
use Rattle.lives.specs.declared.LiveValue.{LiveValue}
use Rattle.lives.specs.declared.list.Lived.{Lived}
use Rattle.lives.specs.Lives.{live_told, live_front, live_out}

-- r is what `live_list` answers for these table bytes, this signal and this lent list, and `after` what it leaves in the list
abbrev pub ListGives : (table : List ℕ) (signal : ℕ) (list : List LiveValue) → Result ℕ Refusal → (after : List LiveValue) → Type 0
ListGives table signal list r after = (told r ≡ live_told table signal (length list)) × (after ≡ live_out table signal list)

-- r is what `lent` gives: the answer, and a list of 600 of which so many are lent, each `before` beforehand
abbrev pub LentGives : (table : List ℕ) (signal room : ℕ) (before : LiveValue) → Lived → Type 0
LentGives table signal room before r =
    (told r.answer ≡ live_told table signal (min room most_lent)) × (r.values ≡ live_front table signal (min room most_lent) (replicate most_lent before))
