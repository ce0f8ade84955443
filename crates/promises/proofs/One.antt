-- No other result meets a contract: specs/One.antt, proved.
use mathlib.Core.Path.{◌≡◌, sym, ◌∙◌}
use Rattle.fields.proofs.Told.{told_exact}
use Rattle.records.proofs.Exact.{step_exact, end_exact}
use Rattle.lives.specs.declared.list.Lived.{Lived}
use Rattle.table.proofs.Exact.{table_exact}
use Rattle.machine.specs.Calls.{keeping, answered}
use Rattle.simulation.proofs.Started.{loads_exact}
use Rattle.promises.specs.One.{One, Determined}

-- a contract that names its result
named : {A : Type 0} (given : A) → One (λ (r : A). r ≡ given)
named given a b p q = p ∙ sym q

-- two results whose parts are equal
paired : {A B : Type 0} (x y : A × B) → x.0 ≡ y.0 → x.1 ≡ y.1 → x ≡ y
paired x y p q = λ i. (p i, q i)

-- and three
threefold : {A B C : Type 0} (x y : A × B × C) → x.0 ≡ y.0 → x.1 ≡ y.1 → x.2 ≡ y.2 → x ≡ y
threefold x y p q r = λ i. (p i, q i, r i)

lived : (a b : Lived) → a.answer ≡ b.answer → a.values ≡ b.values → a ≡ b
lived a b p q = λ i. record { answer = p i; values = q i }

pub determined : Determined
determined = record {
  read_table = λ bytes a b p q. table_exact a b (p ∙ sym q);
  plan = λ table out a b p q. paired a b (told_exact a.0 b.0 (p.0 ∙ sym q.0)) (p.1 ∙ sym q.1);
  put_listing = λ table schedule out at a b p q. let e = p.0 ∙ sym q.0 in let f = p.1 ∙ sym q.1 in λ i. ((e i).used, f i, (e i).bytes);
  live_list = λ table signal list a b p q. paired a b (told_exact a.0 b.0 (p.0 ∙ sym q.0)) (p.1 ∙ sym q.1);
  lent = λ table signal room before a b p q. lived a b (told_exact a.answer b.answer (p.0 ∙ sym q.0)) (p.1 ∙ sym q.1);
  check_schedule = λ table schedule a b p q. told_exact a b (p ∙ sym q);
  new = named _;
  load = loads_exact;
  step = λ m. named _;
  read = λ m task signal. named _;
  write = λ m task signal word. named _;
  lists_load = λ n d s table schedule a b p q.
      let e = loads_exact (keeping n d s) table schedule (answered a.0 (keeping a.1 a.2 a.3)) (answered b.0 (keeping b.1 b.2 b.3)) p q in
      λ i. ((e i).answer, (e i).machine.numbers, (e i).machine.defaults, (e i).machine.store);
  lists_step = λ n d s a b p q. let e = p ∙ sym q in λ i. ((e i).answer, (e i).numbers, (e i).store);
  lists_read = λ n s task signal. named _;
  lists_write = λ n s task signal word a b p q. let e = p ∙ sym q in λ i. ((e i).answer, (e i).store);
  lists_open = λ n task. named _;
  number = λ a. named _;
  place = λ a. named _;
  task = λ bytes count place a b p q. step_exact a b (p ∙ sym q);
  signal = λ bytes count place a b p q. step_exact a b (p ∙ sym q);
  access = λ bytes tasks signals count last place a b p q. step_exact a b (p ∙ sym q);
  end = λ bytes place a b p q. end_exact a b (p ∙ sym q);
  reader = λ table place. named _;
  read_grid = λ bytes. named _;
  press_table = λ table a b p q. paired a b (p.0 ∙ sym q.0) (p.1 ∙ sym q.1);
  press_plan = λ table out a b p q. threefold a b (p.0 ∙ sym q.0) (p.1 ∙ sym q.1) (p.2 ∙ sym q.2);
  press_check = λ table schedule a b p q. paired a b (p.0 ∙ sym q.0) (p.1 ∙ sym q.1);
  press_live = λ table signal list a b p q. threefold a b (p.0 ∙ sym q.0) (p.1 ∙ sym q.1) (p.2 ∙ sym q.2);
  press_new = λ a b p q. let e = p ∙ sym q in λ i. ((e i).numbers, (e i).defaults, (e i).store);
  press_load = λ n d s table schedule a b p q.
      let e = p.0 ∙ sym q.0 in
      let f = p.1 ∙ sym q.1 in
      let m = p.2 ∙ sym q.2 in
      λ i. (e i, f i, (m i).numbers, (m i).defaults, (m i).store);
  press_step = λ n d s a b p q. threefold a b (p.0 ∙ sym q.0) (p.1 ∙ sym q.1) (p.2 ∙ sym q.2);
  press_read = λ n s task signal a b p q. paired a b (p.0 ∙ sym q.0) (p.1 ∙ sym q.1);
  press_write = λ n s task signal word a b p q. paired a b (p.0 ∙ sym q.0) (p.2 ∙ sym q.2);
  press_open = λ n task a b p q. paired a b (p.0 ∙ sym q.0) (p.1 ∙ sym q.1);
}
