-- What `read_table` gives, in the definitions' terms. Assumes nothing.
use Rattle.std.specs.Prelude.{ℕ, Result, Ok, Err}
use Rattle.rules.specs.Numbers.{told}
use Rattle.rules.specs.Reading.{TableSaid}
use Rattle.rules.specs.declared.Refusal.{Refusal}
use Rattle.table.specs.declared.reading.TableRead.{TableRead}

-- the answer in a hyper-period or a refusal: done, at place 0, or the rule that broke
abbrev pub answer_of : Result ℕ Refusal → Result ℕ Refusal
answer_of (Ok h) = Ok 0
answer_of (Err e) = Err e

-- the hyper-period, or 0 where the table is refused
abbrev pub hyper_or_0 : Result ℕ Refusal → ℕ
hyper_or_0 (Ok h) = h
hyper_or_0 (Err e) = 0

abbrev pub table_said : TableRead → TableSaid
table_said r = record { answer = told (answer_of r.hyper); tasks = r.tasks; signals = r.signals; hyper = hyper_or_0 r.hyper }
