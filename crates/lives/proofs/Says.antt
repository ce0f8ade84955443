-- What is answered and filled in, from what was read of a table's bytes. Assumes nothing.
use Rattle.std.specs.Prelude.{Err}
use Rattle.std.proofs.Math.Seq.{take-append_seam}
use Rattle.fields.proofs.Told.{broke}
use mathlib.Core.List.{List, ◌++◌}
use mathlib.Core.Path.{◌≡◌, sym, ap, ap₂, subst, ◌∙◌}
use Prim.Native.Nat.{ℕ, ◌-◌, ◌≤◌, ◌<◌}
use native.Mathlib.Omega.{arith}
use lib.Dec.{eqb}
use lib.ListN.{length, take, drop, replicate, length-map}
use borrow.Author.Tests.{le-leb, eq-eqb, ne_eqb}
use Rattle.rules.specs.Windows.{Table}
use Rattle.rules.specs.Table.{most_values, Fits}
use Rattle.rules.specs.Plan.{line_of, lines, live_list}
use Rattle.rules.specs.Numbers.{Told, tell, told, all_done}
use Rattle.rules.specs.Answers.{live_says}
use Rattle.rules.specs.Reading.{table_in, read_says}
use Rattle.rules.specs.declared.Refusal.{Refusal}
use Rattle.theory.proofs.Tests.{past, here}
use Rattle.theory.proofs.Answered.{live_answers}
use Rattle.accept.specs.Accepts.{its_table, IsAccepted}
use Rattle.accept.specs.declared.Accepted.{Accepted}
use Rattle.accept.proofs.Read.{is_refused}
use Rattle.lives.specs.declared.LiveValue.{LiveValue}
use Rattle.lives.specs.declared.Lives.{Lives}
use Rattle.lives.specs.Lives.{value_of, live_values, live_told, live_front}
use Rattle.lives.specs.Values.{blank, padded, filled, FilledWith}

-- the values in the array's first places are the list
filled_is : (lives : Lives) (xs ys : List LiveValue) → lives.count ≡ length xs → lives.values ≡ padded xs → filled lives lives.count ys ≡ xs ++ drop (length xs) ys
filled_is lives xs ys n e =
    ap₂ (λ (k : ℕ) (l : List LiveValue). take k l ++ drop k ys) n e ∙ ap (λ (l : List LiveValue). l ++ drop (length xs) ys) (take-append_seam xs (replicate (most_values - length xs) blank))

-- a refusal fills nothing in
pub refuses : (table : List ℕ) (s room : ℕ) (x : Refusal) → told (Err x) ≡ live_told table s room → (ys : List LiveValue) → ys ≡ live_front table s room ys
unfolding live_front
refuses table s room x e ys = sym (past (eqb (live_told table s room).number all_done) _ _ (ne_eqb (live_told table s room).number all_done (λ z. let n = broke x in let w : ⊥ = omega (arith, ap (λ (t : Told). t.number) e) in w)))

pub length_lives : (tab : Table) (s : ℕ) → length (live_values tab s) ≡ length (live_list tab s)
unfolding live_values
length_lives tab s = length-map (lines tab s) value_of ∙ length-map (live_list tab s) line_of

-- the table is refused
pub refused : (table : List ℕ) (s room : ℕ) (x : Refusal) → told (Err x) ≡ read_says table → told (Err x) ≡ live_told table s room
unfolding live_told
refused table s room x t = t ∙ sym (past (eqb (read_says table).number all_done) _ _ (is_refused table x t))

-- the table is accepted
module _ (table : List ℕ) (a : Accepted) (says : IsAccepted table a) where
  abbrev tab : Table
  tab = table_in table

  F : Fits tab
  F = subst Fits says.1 a.fits

  signals_are : a.signals.count ≡ tab.signals
  signals_are = ap (λ (t : Table). t.signals) says.1

  accepted_says : (s room : ℕ) → live_told table s room ≡ live_says tab s room
  unfolding live_told
  accepted_says s room = here (eqb (read_says table).number all_done) _ _ (eq-eqb _ _ says.0)

  pub unknown : (s room : ℕ) → a.signals.count ≤ s → told (Err Refusal.NoAccess) ≡ live_told table s room
  unfolding live_says
  unknown s room h = sym (accepted_says s room ∙ here _ _ _ (le-leb tab.signals s (omega (arith, signals_are))))

  module _ (s room : ℕ) (h : s < a.signals.count) (lives : Lives) (n : lives.count ≡ length (live_values (its_table a) s)) where
    size : lives.count ≡ length (live_list tab s)
    size = n ∙ ap (λ (t : Table). length (live_values t s)) says.1 ∙ length_lives tab s

    known : s < tab.signals
    known = omega (arith, signals_are)

    pub short : room < lives.count → told (Err (Refusal.TooShort lives.count)) ≡ live_told table s room
    short l = ap (tell 14) size ∙ sym (accepted_says s room ∙ (live_answers tab F room s).too_short known (omega (arith, size)))

    pub whole : lives.count ≤ room → lives.count ≤ most_values → lives.values ≡ padded (live_values (its_table a) s) → FilledWith table s room lives
    unfolding live_front
    whole l few v =
        let t : tell all_done lives.count ≡ live_told table s room = ap (tell all_done) size ∙ sym (accepted_says s room ∙ (live_answers tab F room s).filled known (omega (arith, size))) in
        record {
          says = t;
          fills = λ ys.
              filled_is lives (live_values (its_table a) s) ys n v ∙ ap (λ (t : Table). live_values t s ++ drop (length (live_values t s)) ys) says.1
              ∙ sym (here (eqb (live_told table s room).number all_done) _ _ (eq-eqb _ _ (sym (ap (λ (t : Told). t.number) t))));
          lent = l;
          few = few;
        }
