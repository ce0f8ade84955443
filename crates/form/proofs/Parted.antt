-- The whole check of a schedule is its form, and then 21 and 22; and a table's hyper-period is that of its tasks.
use mathlib.Core.Path.{◌≡◌, refl, sym, ap, ◌∙◌}
use mathlib.Core.Bool.{Bool, true, false}
use mathlib.Core.List.{List, [], ◌∷◌}
use mathlib.Core.Logic.{◌⊎◌, inl, inr, ⊎_elim}
use Prim.Native.Nat.{ℕ}
use native.Mathlib.Omega.{arith}
use lib.Dec.{ltb}
use Rattle.rules.specs.Words.{when}
use Rattle.rules.specs.Windows.{Table, lcm_all, hyper}
use Rattle.rules.specs.Schedule.{room, base}
use Rattle.rules.specs.Bytes.{Part, bf, wi, ri, parts, schedule_in}
use Rattle.rules.specs.Numbers.{Told, tell, all_done, sum_above, wrong_reader, shared}
use Rattle.rules.specs.Answers.{free_number, records_say, end_says, first_says, sent_wrong, sharing, whole_says, check_says}
use Rattle.rules.specs.Reading.{Grid, table_of, task_of}
use Rattle.rules.specs.declared.Tasks.{Tasks}
use Rattle.rules.specs.declared.Signals.{Signals}
use Rattle.form.specs.Form.{form_says}

-- ---- a run of tests passes every answer on, or gives one refusal whatever comes after it

abbrev Run : (Told → Told) → Type 0
Run f = ((rest : Told) → f rest ≡ rest) ⊎ ((t : Told) × (t.number ≡ 0 → ⊥) × ((rest : Told) → f rest ≡ t))

run_when : (b : Bool) (t : Told) (f : Told → Told) → (t.number ≡ 0 → ⊥) → Run f → Run (λ rest. when b t (f rest))
unfolding when
run_when true t f n r = inr (t, n, λ rest. refl)
run_when false t f n r = r

run_then : (f g : Told → Told) → Run f → Run g → Run (λ rest. f (g rest))
run_then f g (inl p) (inl q) = inl (λ rest. p (g rest) ∙ q rest)
run_then f g (inl p) (inr (t, n, q)) = inr (t, n, λ rest. p (g rest) ∙ q rest)
run_then f g (inr (t, n, p)) r = inr (t, n, λ rest. p (g rest))

module _ (tab : Table) (bytes : List ℕ) where
  named : (x : Part) → free_number tab x ≡ 0 → ⊥
  named (bf s) e = omega arith
  named (wi s k i) e = omega arith
  named (ri s k i) e = omega arith

  records_run : (xs : List Part) → Run (records_say tab bytes xs)
  unfolding records_say
  records_run [] = inl (λ rest. refl)
  records_run (x ∷ xs) =
      run_when _ _ _ (λ e. omega arith)
      (run_when _ _ _ (λ e. omega arith)
      (run_when _ _ (records_say tab bytes xs) (named x) (records_run xs)))

  end_run : Run (end_says tab bytes)
  unfolding end_says
  end_run =
      run_when _ _ _ (λ e. omega arith)
      (run_when _ _ _ (λ e. omega arith)
      (run_when _ _ (λ rest. rest) (λ e. omega arith) (inl (λ rest. refl))))

  abbrev formed : Told → Told
  formed rest = records_say tab bytes (parts tab) (end_says tab bytes (when (ltb (room tab) (base (schedule_in tab bytes) tab.signals)) (tell sum_above 0) rest))

  form_run : Run formed
  form_run =
      run_then (records_say tab bytes (parts tab)) _ (records_run (parts tab))
      (run_then (end_says tab bytes) _ end_run
      (run_when (ltb (room tab) (base (schedule_in tab bytes) tab.signals)) (tell sum_above 0) (λ rest. rest) (λ e. omega arith) (inl (λ rest. refl))))

  -- what breaks the form is what the check says
  pub check_form : ((form_says tab bytes).number ≡ 0 → ⊥) → check_says tab bytes ≡ form_says tab bytes
  unfolding form_says check_says whole_says
  check_form n = ⊎_elim (λ p. absurd (n (ap (λ (t : Told). t.number) (p (tell all_done 0))))) (λ (t, m, p). p _ ∙ sym (p (tell all_done 0))) form_run

  -- and where the form is right, 21 and 22 are left
  pub check_rest : (form_says tab bytes).number ≡ 0
      → check_says tab bytes ≡ first_says tab (sent_wrong tab (schedule_in tab bytes)) wrong_reader (parts tab) (first_says tab (sharing tab (schedule_in tab bytes)) shared (parts tab) (tell all_done 0))
  unfolding form_says check_says whole_says
  check_rest e = ⊎_elim (λ p. p _) (λ (t, m, p). absurd (m (ap (λ (t : Told). t.number) (sym (p (tell all_done 0))) ∙ e))) form_run

-- ---- the hyper-period of a table

-- is the least common multiple of its tasks' periods, whatever its signals
pub by_periods : (tasks : Tasks) (S : Signals) (grid : Grid) {h : ℕ} → h ≡ hyper (table_of tasks S grid) → h ≡ lcm_all (λ k. (task_of tasks k).period) tasks.count
unfolding hyper
by_periods tasks S grid e = e
