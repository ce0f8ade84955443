-- `untils::Untils::apart_from_earlier` meets its contract: no earlier task, and no earlier instance, clashes.
use Rattle.std.proofs.Common.{◌≡◌, ℕ, Bool, true, false, refl, sym, rules, tests, arith}
use Rattle.std.proofs.lemmas.Iterator.{cases_from_all, YieldsList-from_range}
use Rattle.rules.specs.declared.Side.{Side}
use Rattle.faults.specs.Faults.{view_table, view_schedule, apart_from_task}
use Rattle.faults.proofs.Viewed.{has_of, has_below}
use Rattle.faults.proofs.Clashing.{every_below, apart_is, earlier_fails, earlier_holds}
use Rattle.faults.proofs.Numbered.{writers_asked, in_reach}
use Rattle.faults.proofs.untils.Untils.apart_from_earlier.Goals as goal

pub writer-requires : goal.writer-requires
writer-requires c = writers_asked c.args.self.now.view _ c.requires.0

pub apart_from-requires : goal.apart_from-requires
apart_from-requires c = λ i l. let v = c.args.self.now.view in
    in_reach v _ c.writer.ensures i (has_of v Side.Writers _ i c.requires.0 (omega (arith, has_below v Side.Writers c.args.task c.args.instance c.requires)) l)

pub returns-then-all : goal.returns-then-all
returns-then-all c = let v = c.args.self.now.view in
    let p : ℕ → Bool = apart_from_task (view_table v) v.accepted.now.grid (view_schedule v) v.signal c.args.held in
    let e = every_below _ c.args.task p
    (cases_from_all _ _ _ (λ l. p l ≡ true) (λ l. p l ≡ false) c.all.ensures.ran (YieldsList-from_range 0 c.args.task c.args.task refl (omega arith)) (λ x q k. search (rules, tests)) (λ x q k. search (rules, tests))) in
    earlier_holds _ _ _ _ _ _ _ e c.if-all.true
    (sym (apart_is c.args.self.now _ c.requires.0 c.writer.ensures _ (omega (arith, has_below v Side.Writers c.args.task c.args.instance c.requires)) refl c.apart_from.ensures))

pub returns-else-all : goal.returns-else-all
returns-else-all c = let v = c.args.self.now.view in
    let p : ℕ → Bool = apart_from_task (view_table v) v.accepted.now.grid (view_schedule v) v.signal c.args.held in
    let e = every_below _ c.args.task p
    (cases_from_all _ _ _ (λ l. p l ≡ true) (λ l. p l ≡ false) c.all.ensures.ran (YieldsList-from_range 0 c.args.task c.args.task refl (omega arith)) (λ x q k. search (rules, tests)) (λ x q k. search (rules, tests))) in
    earlier_fails _ _ _ _ _ _ _ e c.if-all.false
