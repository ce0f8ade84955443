-- `put_planned` meets its contract: at each turn the records that are left make the page whole. Assumes nothing.
use Rattle.std.proofs.Common.{◌≡◌, ◌-◌, length, take, drop, refl, ◌∙◌, arith, length-drop}
use lib.Seq.{take_all}
use Rattle.text.proofs.Walked.{start, headed, turn, end}
use Rattle.text.proofs.listing.put_planned.Goals as goal

pub loop-rest-init : goal.loop-rest-init
loop-rest-init c = record { same_buffer = refl; records = (_, start _ _ _ c.requires.bytes) }

pub list_record-listed-requires : goal.list_record-listed-requires
list_record-listed-requires c = (turn c.loop-rest.invariant.records.1 c.loop-rest-test.true).within

pub overflow_add-sum : goal.overflow_add-sum
overflow_add-sum c = omega (arith, (turn c.loop-rest.invariant.records.1 c.loop-rest-test.true).few, c.list_record-listed.ensures.1, c.requires.few)

pub slice_bounds-rest-count : goal.slice_bounds-rest-count
slice_bounds-rest-count c = omega (arith, (turn c.loop-rest.invariant.records.1 c.loop-rest-test.true).within, c.list_record-listed.ensures.0)

pub slice_bounds-rest-start : goal.slice_bounds-rest-start
slice_bounds-rest-start c = omega (arith, (turn c.loop-rest.invariant.records.1 c.loop-rest-test.true).within, c.list_record-listed.ensures.0)

pub loop-rest-smaller : goal.loop-rest-smaller
loop-rest-smaller c =
    let T = turn c.loop-rest.invariant.records.1 c.loop-rest-test.true in
    let s = c.list_record-listed.ensures.0 in
    let rest = c.loop-rest.rest.now in
    let n = c.list_record-listed.result.size in
    let e : take (length rest - n) (drop n rest) ≡ drop n rest = take_all (length rest - n) (drop n rest) (simp length-drop (omega arith)) in
    simp (e, length-drop) (omega (arith, T.within, T.some))

pub loop-rest-preserved : goal.loop-rest-preserved
loop-rest-preserved c =
    let T = turn c.loop-rest.invariant.records.1 c.loop-rest-test.true in
    let l = c.list_record-listed.ensures in
    let rest = c.loop-rest.rest.now in
    let n = c.list_record-listed.result.size in
    let e : take (length rest - n) (drop n rest) ≡ drop n rest = take_all (length rest - n) (drop n rest) (simp length-drop (omega arith)) in
    record { same_buffer = l.2.0 ∙ c.loop-rest.invariant.same_buffer; records = (T.others, rw e (T.next l.0 l.1 l.2.1)) }

pub returns : goal.returns
returns c = (
  c.put_total.ensures.0 ∙ c.loop-rest.invariant.same_buffer ∙ c.put_hyper.ensures.0,
  c.put_total.ensures.1 ∙ end c.loop-rest.invariant.records.1 c.loop-rest-test.false ∙ headed _ _ c.hyper_of.ensures c.put_hyper.ensures.1,
)
