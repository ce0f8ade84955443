-- The sections one after the other, and the verdict on the whole, are what rules reads of the bytes.
use Rattle.std.specs.Prelude.{Result, Err}
use mathlib.Core.Path.{◌≡◌, sym, ap, ◌∙◌}
use mathlib.Core.List.{List}
use Prim.Native.Nat.{ℕ}
use Rattle.rules.specs.Numbers.{Told, told}
use Rattle.rules.specs.Records.{End}
use Rattle.rules.specs.Answers.{table_says}
use Rattle.rules.specs.Reading.{Grid, Section, TableSaid, tasks_in, signals_in, accesses_in, ended, signals_of, accesses_of, end_of, grid_in, table_of, table_in, accepted_hyper, hyper_read, verdict, read_says, table_read}
use Rattle.rules.specs.declared.Refusal.{Refusal}
use Rattle.rules.specs.declared.Tasks.{Tasks}
use Rattle.rules.specs.declared.Signals.{Signals}
use Rattle.rules.specs.declared.Accesses.{Accesses}
use Rattle.records.specs.Said.{end_said}
use Rattle.sections.specs.Said.{section_said}
use Rattle.records.specs.declared.Cursor.{Cursor}
use Rattle.sections.specs.declared.section.SectionRead.{SectionRead}
use Rattle.table.specs.Said.{answer_of, hyper_or_0}
use Rattle.table.specs.Forms.{timed}
use Rattle.table.proofs.Says.{defaults_free, accepted_free}

abbrev made : Told → Tasks → Signals → ℕ → TableSaid
made t tasks signals h = record { answer = t; tasks = tasks; signals = signals; hyper = h }

-- what the verdict and the hyper-period hang on
told_of : (bytes : List ℕ) (e : End) → end_of bytes ≡ e → table_read bytes ≡ made (verdict (table_in bytes) e) (tasks_in bytes).read (signals_of bytes).read (hyper_read (table_in bytes) e)
unfolding table_read read_says
told_of bytes e h = ap (λ (x : End). made (verdict (table_in bytes) x) (tasks_in bytes).read (signals_of bytes).read (hyper_read (table_in bytes) x)) h

module _ (bytes : List ℕ) (t : SectionRead Tasks) (g : SectionRead Signals) (a : SectionRead Accesses) (end : Result Cursor Refusal)
    (tasks : section_said t ≡ tasks_in bytes)
    (signals : section_said g ≡ signals_in bytes (end_said t.end))
    (accesses : section_said a ≡ accesses_in bytes t.read.count g.read.count (end_said g.end))
    (ends : end_said end ≡ ended bytes (end_said a.end)) where
  signals_are : section_said g ≡ signals_of bytes
  signals_are = signals ∙ ap (signals_in bytes) (ap (λ (x : Section Tasks). x.end) tasks)

  accesses_are : section_said a ≡ accesses_of bytes
  accesses_are =
      accesses
      ∙ ap (λ (x : Section Tasks). accesses_in bytes x.read.count g.read.count (end_said g.end)) tasks
      ∙ ap (λ (x : Section Signals). accesses_in bytes (tasks_in bytes).read.count x.read.count x.end) signals_are

  end_is : end_of bytes ≡ end_said end
  end_is = sym (ends ∙ ap (λ (x : Section Accesses). ended bytes x.end) accesses_are)

  -- a record is refused
  pub read_refused : (why : Refusal) → end ≡ Err why → made (told (Err why)) t.read g.read 0 ≡ table_read bytes
  unfolding verdict hyper_read
  read_refused why e =
      ap (λ (x : Section Tasks). made (told (Err why)) x.read g.read 0) tasks
      ∙ ap (λ (x : Section Signals). made (told (Err why)) (tasks_in bytes).read x.read 0) signals_are
      ∙ sym (told_of bytes (End.refused (told (Err why))) (end_is ∙ ap end_said e))

  -- all records are read, and the whole is judged
  pub read_judged : (p : ℕ) (grid : Grid) (h : Result ℕ Refusal) → end_said end ≡ End.at p → grid ≡ grid_in bytes
      → (told (answer_of h) ≡ table_says (timed t.read g.read.count grid)) × (hyper_or_0 h ≡ accepted_hyper (timed t.read g.read.count grid))
      → made (told (answer_of h)) t.read g.read (hyper_or_0 h) ≡ table_read bytes
  unfolding verdict hyper_read table_in
  read_judged p grid h e q j =
      ap (λ (x : Told). made x t.read g.read (hyper_or_0 h)) (j.0 ∙ sym (defaults_free t.read g.read grid))
      ∙ ap (λ (x : ℕ). made (table_says (table_of t.read g.read grid)) t.read g.read x) (j.1 ∙ sym (accepted_free t.read g.read grid))
      ∙ ap (λ (x : Grid). judged t.read g.read x) q
      ∙ ap (λ (x : Section Tasks). judged x.read g.read (grid_in bytes)) tasks
      ∙ ap (λ (x : Section Signals). judged (tasks_in bytes).read x.read (grid_in bytes)) signals_are
      ∙ sym (told_of bytes (End.at p) (end_is ∙ e))
    where
      judged : Tasks → Signals → Grid → TableSaid
      judged ts gs x = made (table_says (table_of ts gs x)) ts gs (accepted_hyper (table_of ts gs x))
