-- The words of a line, separated by one space. Assumes nothing.
use Rattle.std.specs.Prelude.{ℕ, ◌+◌, List, take, drop, ◌==◌, count_by}
use Rattle.std.specs.List.{position_or_len}
use Rattle.console.specs.Ascii.{space}

-- how many bytes stand before the first such byte, or in all
abbrev pub length_before : ℕ → List ℕ → ℕ
length_before mark bytes = position_or_len (λ b. b == mark) bytes

-- how many bytes are this one
abbrev pub marks_in : ℕ → List ℕ → ℕ
marks_in mark bytes = count_by (λ b. b == mark) bytes

-- what stands before the first space
abbrev pub first_word : List ℕ → List ℕ
first_word line = take (length_before space line) line

-- what stands after it
abbrev pub after_word : List ℕ → List ℕ
after_word line = drop (length_before space line + 1) line
