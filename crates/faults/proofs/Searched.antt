-- The search over one side of each signal finds what document 01's walk over all records finds.
use mathlib.Core.Path.{◌≡◌, refl, sym, ap, ◌∙◌}
use Rattle.std.specs.Prelude.{Option, Some, None}
use mathlib.Core.Bool.{Bool, true, false}
use mathlib.Core.List.{List, [], ◌∷◌, ◌++◌}
use Prim.Native.Nat.{ℕ, zero, suc}
use Rattle.rules.specs.Words.{gather, when}
use Rattle.rules.specs.Windows.{Table}
use Rattle.rules.specs.Schedule.{Schedule}
use Rattle.rules.specs.Bytes.{Part, bf, start_of, writer_parts, reader_parts, parts_of, parts}
use Rattle.rules.specs.Numbers.{Told, tell}
use Rattle.rules.specs.Answers.{first_says}
use Rattle.accept.specs.Accepts.{its_table}
use Rattle.accept.specs.declared.Accepted.{Accepted}
use Rattle.theory.proofs.Lists.{All, all_gather}
use Rattle.rules.specs.declared.Side.{Side}
use Rattle.form.specs.Records.{instance_parts}
use Rattle.form.specs.Form.{walked}
use Rattle.form.proofs.Walks.{walked_append, walked_first, walked_stays}
use Rattle.faults.specs.Faults.{records_in, side_of, wrong_of, seek, placed}

-- nothing was found
pub nowhere : (o : Option ℕ) → ((p : ℕ) → o ≡ Some p → ⊥) → o ≡ None
nowhere (Some p) n = absurd (n p refl)
nowhere None n = refl

module _ (tab : Table) (wrong : Part → Bool) where
  -- what is found stays found
  pub found_stays : (p : ℕ) (x : Part) → seek tab wrong x (Some p) ≡ Some p
  found_stays p x = refl

  one_seen : (b : Bool) (p n : ℕ) (xs : List Part) (rest : Told) → placed (walked (seek tab wrong) xs None) n rest ≡ first_says tab wrong n xs rest
      → placed (walked (seek tab wrong) xs (when b (Some p) None)) n rest ≡ when b (tell n p) (first_says tab wrong n xs rest)
  unfolding when
  one_seen true p n xs rest e = ap (λ (f : Option ℕ). placed f n rest) (walked_stays (seek tab wrong) (Some p) (found_stays p) xs)
  one_seen false p n xs rest e = e

  -- the walk over a list says what the first wrong record of it says
  first_walked : (xs : List Part) (n : ℕ) (rest : Told) → placed (walked (seek tab wrong) xs None) n rest ≡ first_says tab wrong n xs rest
  unfolding walked first_says
  first_walked [] n rest = refl
  first_walked (x ∷ xs) n rest = one_seen (wrong x) (start_of tab x) n xs rest (first_walked xs n rest)

  -- one record
  pub one_found : (x : Part) {p : ℕ} → wrong x ≡ true → p ≡ start_of tab x → Some p ≡ walked (seek tab wrong) (x ∷ []) None
  unfolding walked when
  one_found x e q = ap Some q ∙ ap (λ (b : Bool). when b (Some (start_of tab x)) None) (sym e)

  pub one_passed : (x : Part) → wrong x ≡ false → None ≡ walked (seek tab wrong) (x ∷ []) None
  unfolding walked when
  one_passed x e = ap (λ (b : Bool). when b (Some (start_of tab x)) None) (sym e)

  -- all records of one task
  pub all_walked : (side : Side) (s k : ℕ) {r : Option ℕ} {n m : ℕ} → r ≡ walked (seek tab wrong) (instance_parts side s k n) None → n ≡ m → r ≡ walked (seek tab wrong) (instance_parts side s k m) None
  all_walked side s k e q = e ∙ ap (λ n. walked (seek tab wrong) (instance_parts side s k n) None) q

  -- records that are not wrong may be left out
  passed_by : (x : Part) (f : Option ℕ) → wrong x ≡ false → seek tab wrong x f ≡ f
  unfolding when
  passed_by x (Some p) e = refl
  passed_by x None e = ap (λ (b : Bool). when b (Some (start_of tab x)) None) e

  quiet : (xs : List Part) (f : Option ℕ) → All (λ x. wrong x ≡ false) xs → walked (seek tab wrong) xs f ≡ f
  unfolding walked
  quiet [] f a = refl
  quiet (x ∷ xs) f a = ap (walked (seek tab wrong) xs) (passed_by x f a.0) ∙ quiet xs f a.1

  gather_walked : (g h : ℕ → List Part) (n : ℕ) (f : Option ℕ) → ((k : ℕ) (f : Option ℕ) → walked (seek tab wrong) (g k) f ≡ walked (seek tab wrong) (h k) f)
      → walked (seek tab wrong) (gather n g) f ≡ walked (seek tab wrong) (gather n h) f
  unfolding gather
  gather_walked g h zero f e = refl
  gather_walked g h (suc n) f e =
      walked_append (seek tab wrong) (gather n g) (g n) f
      ∙ ap (walked (seek tab wrong) (g n)) (gather_walked g h n f e)
      ∙ e n (walked (seek tab wrong) (gather n h) f)
      ∙ sym (walked_append (seek tab wrong) (gather n h) (h n) f)

module _ (a : Accepted) (E : Schedule) where
  abbrev tab : Table
  tab = its_table a

  abbrev go : Side → List Part → Option ℕ → Option ℕ
  go side = walked (seek tab (wrong_of tab E side))

  -- of a signal's records only one side can be wrong
  signal_walked : (side : Side) (s : ℕ) (f : Option ℕ) → go side (side_of tab a.grid side tab.tasks s) f ≡ go side (parts_of tab s) f
  unfolding side_of records_in parts_of
  signal_walked Side.Writers s f =
      sym (quiet tab (wrong_of tab E Side.Writers) (reader_parts tab s) _ (all_gather _ _ tab.tasks (λ k h. all_gather _ _ _ (λ i l. (refl, tt)))))
      ∙ sym (walked_append _ (writer_parts tab s) (reader_parts tab s) f)
      ∙ ap (go Side.Writers (writer_parts tab s ++ reader_parts tab s)) (sym (passed_by tab (wrong_of tab E Side.Writers) (bf s) f refl))
      ∙ sym (walked_first _ (bf s) (writer_parts tab s ++ reader_parts tab s) f)
  signal_walked Side.Readers s f =
      ap (go Side.Readers (reader_parts tab s)) (sym (quiet tab (wrong_of tab E Side.Readers) (writer_parts tab s) f (all_gather _ _ tab.tasks (λ k h. all_gather _ _ _ (λ i l. (refl, tt))))))
      ∙ sym (walked_append _ (writer_parts tab s) (reader_parts tab s) f)
      ∙ ap (go Side.Readers (writer_parts tab s ++ reader_parts tab s)) (sym (passed_by tab (wrong_of tab E Side.Readers) (bf s) f refl))
      ∙ sym (walked_first _ (bf s) (writer_parts tab s ++ reader_parts tab s) f)

  -- so the search says what document 01 says
  pub search_says : (side : Side) {r : Option ℕ} → r ≡ go side (gather a.signals.count (side_of tab a.grid side tab.tasks)) None → (n : ℕ) (rest : Told)
      → placed r n rest ≡ first_says tab (wrong_of tab E side) n (parts tab) rest
  unfolding parts
  search_says side e n rest =
      ap (λ (f : Option ℕ). placed f n rest) (e ∙ gather_walked tab (wrong_of tab E side) (side_of tab a.grid side tab.tasks) (parts_of tab) a.signals.count None (signal_walked side))
      ∙ first_walked tab (wrong_of tab E side) (parts tab) n rest
