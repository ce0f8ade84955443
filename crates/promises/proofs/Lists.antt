-- The live list is right: specs/Lists.antt, proved.
use Rattle.std.specs.Prelude.{Result}
use Prim.Native.Nat.{ℕ}
use mathlib.Core.Path.{◌≡◌, sym, ap, subst, ◌∙◌}
use mathlib.Core.List.{List, ◌++◌}
use lib.ListN.{length, drop}
use borrow.Author.Tests.{eq-eqb, ne_eqb}
use Rattle.rules.specs.Plan.{live_list}
use Rattle.rules.specs.Numbers.{Told, tell, told, all_done}
use Rattle.rules.specs.Answers.{live_says}
use Rattle.rules.specs.Reading.{table_in, read_says}
use Rattle.rules.specs.declared.Refusal.{Refusal}
use Rattle.theory.specs.First.{FirstBrokenElse, BrokenLive, live_rule_told, live_rules}
use Rattle.theory.proofs.Proved.{live_says_first}
use Rattle.fields.proofs.Told.{told_exact}
use Rattle.fields.proofs.Whens.{on, off}
use Rattle.lives.specs.declared.LiveValue.{LiveValue}
use Rattle.lives.specs.Lives.{live_values, live_told, live_front}
use Rattle.lives.specs.Gives.{ListGives}
use Rattle.promises.specs.Lists.{ListsRightly, AllListsRightly}

module _ (table : List ℕ) (signal : ℕ) (list : List LiveValue) where
  accepted_told : (read_says table).number ≡ all_done → live_told table signal (length list) ≡ live_says (table_in table) signal (length list)
  unfolding live_told
  accepted_told e = on _ _ (eq-eqb (read_says table).number all_done e)

  refused_told : ((read_says table).number ≡ all_done → ⊥) → live_told table signal (length list) ≡ read_says table
  unfolding live_told
  refused_told n = off _ _ (ne_eqb (read_says table).number all_done n)

  front_done : (live_told table signal (length list)).number ≡ all_done
      → live_front table signal (length list) list ≡ live_values (table_in table) signal ++ drop (length (live_values (table_in table) signal)) list
  unfolding live_front
  front_done e = on _ _ (eq-eqb (live_told table signal (length list)).number all_done e)

  front_refused : ((live_told table signal (length list)).number ≡ all_done → ⊥) → live_front table signal (length list) list ≡ list
  unfolding live_front
  front_refused n = off _ _ (ne_eqb (live_told table signal (length list)).number all_done n)

module _ (table : List ℕ) (signal : ℕ) (list : List LiveValue) (r : Result ℕ Refusal) (after : List LiveValue) (g : ListGives table signal list r after) where
  number_is : (told r).number ≡ (live_told table signal (length list)).number
  number_is = ap (λ (t : Told). t.number) g.0

  rightly : ListsRightly table signal list r after
  rightly = record {
    table_refused = λ n. g.0 ∙ refused_told table signal list n;
    first_broken = λ e. subst
        (FirstBrokenElse (BrokenLive (table_in table) signal (length list)) (live_rule_told (table_in table) signal) (tell all_done (length (live_list (table_in table) signal))) live_rules)
        (sym (g.0 ∙ accepted_told table signal list e)) (live_says_first (table_in table) signal (length list));
    filled = λ z. g.1 ∙ front_done table signal list (sym number_is ∙ z);
    unchanged = λ n. g.1 ∙ front_refused table signal list (λ z. n (number_is ∙ z));
    one = λ q b h. (told_exact q r (h.0 ∙ sym g.0), h.1 ∙ sym g.1);
  }

pub all_lists_rightly : AllListsRightly
all_lists_rightly = rightly
