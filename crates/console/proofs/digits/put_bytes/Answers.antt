-- `put_bytes` meets its contract. What is left, put after what is there, gives what the whole gives. Assumes nothing.
use Rattle.std.proofs.Common.{sym, ap, ◌∙◌, arith}
use Rattle.std.specs.Slice.Iter.{chunks_exact_rest}
use Rattle.console.specs.Page.{page, put_all}
use Rattle.console.proofs.Numbers.{pair_turn, pair_end}
use Rattle.console.proofs.digits.put_bytes.Goals as goal

pub loop-digits-preserved : goal.loop-digits-preserved
loop-digits-preserved c =
    let s = c.in-Some.ensures.steps in
    let v = c.loop-digits.invariant in
    let e = pair_turn c.in-Some.digits.now (chunks_exact_rest c.next.new.self) (page c.loop-digits.page.bytes.now c.loop-digits.used) (s.1.1 ∙ v.pairs) in
    record { pairs = s.0 ∙ v.pairs; same_buffer = cc; text = cc (e, s.1.0, v.text) }

pub returns : goal.returns
returns c =
    let s = c.in-None.ensures.steps in
    let v = c.loop-digits.invariant in
    let e = pair_end (chunks_exact_rest c.loop-digits.digits-iterator) (omega (arith, s.1.0, v.pairs)) in
    (v.same_buffer, sym (ap (λ l. put_all l (page c.loop-digits.page.bytes.now c.loop-digits.used)) e) ∙ v.text)
