-- `forms::use_stands` meets its contract: the mark, the signal, the task and the instance.
use mathlib.Core.Path.{sym, ◌∙◌}
use mathlib.Core.Bool.{true≢false}
use Rattle.form.proofs.Steps.{use_marked}
use Rattle.form.proofs.forms.use_stands.Goals as goal
use Rattle.form.proofs.forms.use_stands.Goals.{then-marked, else-marked, then-from-part, else-from-part}

pub returns-then-from-part-2 : goal.returns-then-from-part-2
returns-then-from-part-2 c = let a = c.args in
    rw (use_marked a.bytes.now a.at a.part.mark a.part.signal a.part.task a.part.instance c.requires, ← c.marked.ensures)
    (elim c.if-from-part.branch [
      | then-from-part w ↦ elim c.if-marked.branch [
        | then-marked v ↦ rw (v.if-marked.true, ← v.from.ensures, ← v.value-is, w.if-from-part.true, ← w.from-then-from-part.ensures, ← w.value-is, c.if-from-part-2.true) c.instance_stands.ensures
        | else-marked v ↦ absurd (true≢false (sym w.if-from-part.true ∙ v.value-is ∙ v.if-marked.false))
      ]
      | else-from-part w ↦ absurd (true≢false (sym c.if-from-part-2.true ∙ w.value-is ∙ w.if-from-part.false))
    ])

pub returns-else-from-part-2 : goal.returns-else-from-part-2
returns-else-from-part-2 c = let a = c.args in
    rw (use_marked a.bytes.now a.at a.part.mark a.part.signal a.part.task a.part.instance c.requires, ← c.marked.ensures, c.if-from-part-2.false)
    (elim c.if-from-part.branch [
      | then-from-part w ↦ elim c.if-marked.branch [
        | then-marked v ↦ rw (v.if-marked.true, ← v.from.ensures, ← v.value-is, w.if-from-part.true, ← w.from-then-from-part.ensures, ← w.value-is, c.if-from-part-2.false)
        | else-marked v ↦ absurd (true≢false (sym w.if-from-part.true ∙ v.value-is ∙ v.if-marked.false))
      ]
      | else-from-part w ↦ elim c.if-marked.branch [
        | then-marked v ↦ rw (v.if-marked.true, ← v.from.ensures, ← v.value-is, w.if-from-part.false)
        | else-marked v ↦ rw v.if-marked.false
      ]
    ])
