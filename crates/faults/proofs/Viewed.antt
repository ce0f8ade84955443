-- What is at hand for one signal gives the places and the elements of its records, and the value a reader is bound to.
use mathlib.Core.Path.{◌≡◌, refl, sym, ap, ap₂, subst, ◌∙◌}
use mathlib.Core.Bool.{Bool, true, false}
use mathlib.Core.Logic.{◌⊎◌, inl, inr, ⊎_elim}
use Prim.Native.Nat.{ℕ, suc, ◌+◌, ◌*◌, ◌/◌, ◌≤◌, ◌<◌}
use native.Mathlib.Omega.{arith}
use lib.Dec.{T}
use lib.ListN.{length, get_or}
use Rattle.rules.specs.Words.{total, times}
use Rattle.rules.specs.Windows.{Table, opens, closes, hyper, instances}
use Rattle.rules.specs.Values.{Value, carried, by, signal_of, bound, closing, until, IsValue}
use Rattle.rules.specs.Table.{longest}
use Rattle.rules.specs.Schedule.{Schedule, element_of}
use Rattle.rules.specs.Bytes.{writers_below, size_of, start_of, schedule_length, schedule_in}
use Rattle.rules.specs.Reading.{task_of, writes_in, reads_in}
use Rattle.theory.proofs.Tests.{is, holds}
use Rattle.theory.proofs.Time.{closes_le}
use Rattle.theory.proofs.Sums.{length_is}
use Rattle.theory.proofs.Bound.{bound_signal, bound_value}
use Rattle.signals.specs.declared.Publication.{Publication}
use Rattle.signals.specs.Forms.{publication_of, binding_of, until_of}
use Rattle.signals.proofs.Standing.{binding_is}
use Rattle.signals.proofs.Lives.{until_is}
use Rattle.accept.specs.declared.Accepted.{Accepted}
use Rattle.rules.specs.declared.Side.{Side}
use Rattle.form.specs.Records.{permits, use_of, users_of}
use Rattle.form.proofs.Steps.{users_few}
use Rattle.sweep.specs.Pass.{element_at, longest_bytes}
use Rattle.sweep.proofs.Inspected.{total_within, writer_step, reader_step, writer_inside, reader_inside}
use Rattle.faults.specs.declared.view.View.{View}
use Rattle.faults.specs.declared.sharing.Held.{Held}
use Rattle.faults.specs.Faults.{view_table, view_schedule, Has, first_of, records_in, view_records}

-- an instance of a task that has records
one_of : (b : Bool) (n i : ℕ) → i < times b n → (b ≡ true) × (i < n)
one_of true n i h = (refl, h)
one_of false n i h = absurd (omega arith)

-- one of the records of task k
pub has_of : (v : View) (side : Side) (k i : ℕ) {n : ℕ} → k < v.accepted.now.tasks.count → n ≤ view_records v side k → i < n → Has v side k i
unfolding records_in
has_of v side k i h l m = let o = one_of (permits v.accepted.now.grid side v.signal k) (instances (view_table v) k) i (omega arith) in (h, o.0, o.1)

pub has_each : (v : View) (side : Side) {k i n : ℕ} → k < v.accepted.now.tasks.count → n ≡ view_records v side k → i < n → Has v side k i
has_each v side h e m = has_of v side _ _ h (omega (arith, e)) m

pub has_below : (v : View) (side : Side) (k i : ℕ) → Has v side k i → i < view_records v side k
unfolding records_in
has_below v side k i (h, w, l) = rw w l

abbrev made : ℕ → ℕ → ℕ → Held
made from element until = record { element = element; from = from; until = until }

pub held_is : (from : ℕ) {e d u r : ℕ} → e ≡ d → u ≡ r → made from e u ≡ made from d r
held_is from e u = ap₂ (made from) e u

pub none_below : (tab : Table) (s : ℕ) → writers_below tab s 0 ≡ 0
unfolding writers_below total
none_below tab s = refl

module _ (v : View) where
  abbrev a : Accepted
  a = v.accepted.now

  abbrev tab : Table
  tab = view_table v

  abbrev E : Schedule
  E = view_schedule v

  abbrev s : ℕ
  s = v.signal

  whole_signal : (total (size_of tab) (suc s) + 2 ≤ length v.schedule.now) × (total (size_of tab) (suc s) + 2 ≤ longest_bytes)
  unfolding schedule_length total
  whole_signal =
      let l = total_within (size_of tab) a.signals.count s v.listed in
      (omega (arith, v.whole), omega (arith, length_is tab, a.fits.few_signals, a.fits.few_uses))

  -- the element of a record stands where the code looks for it
  pub place_is : (side : Side) (k i : ℕ) → Has v side k i → (first_of v.places side k + 7 * i ≡ start_of tab (use_of side s k i) + 6) × (start_of tab (use_of side s k i) + 6 < length v.schedule.now) × (start_of tab (use_of side s k i) + 6 ≤ longest_bytes)
  place_is Side.Writers k i (h, w, l) = (
    omega (arith, v.placed.writers k h, writer_step tab s k i),
    omega (arith, whole_signal.0, writer_inside tab s k i h w l),
    omega (arith, whole_signal.1, writer_inside tab s k i h w l),
  )
  place_is Side.Readers k i (h, w, l) = (
    omega (arith, v.placed.readers k h, reader_step tab s k i),
    omega (arith, whole_signal.0, reader_inside tab s k i h w l),
    omega (arith, whole_signal.1, reader_inside tab s k i h w l),
  )

  -- the writers' places tell how many records stand before theirs
  pub places_apart : (k : ℕ) → k < a.tasks.count → get_or v.places.writers k 0 ≡ get_or v.places.writers 0 0 + 7 * writers_below tab s k
  unfolding start_of
  places_apart k h = omega (arith, v.placed.writers k h, v.placed.writers 0 (omega arith), none_below tab s)

  pub written_is : (k i : ℕ) → Has v Side.Writers k i → element_at v.schedule.now (get_or v.places.writers k 0) i ≡ E.writer s k i
  unfolding schedule_in
  written_is k i h = ap (λ n. get_or v.schedule.now n 0) (place_is Side.Writers k i h).0

  pub read_is : (k i : ℕ) → Has v Side.Readers k i → element_at v.schedule.now (get_or v.places.readers k 0) i ≡ E.reader s k i
  unfolding schedule_in
  read_is k i h = ap (λ n. get_or v.schedule.now n 0) (place_is Side.Readers k i h).0

  -- instances open and close within the hyper-period
  pub within : (side : Side) (k i : ℕ) → Has v side k i → (closes tab k i ≤ a.hyper) × (opens tab k i < closes tab k i) × (a.hyper ≤ longest)
  within side k i (h, w, l) = (
    omega (arith, closes_le tab a.fits k i h l, a.own),
    omega (arith, a.fits.window k h),
    omega (arith, a.own, a.fits.hyper_short),
  )

  pub is_written : (k i : ℕ) → Has v Side.Writers k i → IsValue tab (by s k i)
  is_written k i (h, w, l) = (v.listed, h, holds w, l)

  -- the carried value is element 0, another is that of its WI
  abbrev Bound : ℕ → Publication → Type 0
  Bound t p = ((p.task ≡ 255) × (0 ≡ element_of E (bound tab s t))) ⊎ (Has v Side.Writers p.task p.instance × (E.writer s p.task p.instance ≡ element_of E (bound tab s t)))

  bound_by : (t : ℕ) (u : Value) → IsValue tab u → signal_of u ≡ s → bound tab s t ≡ u → Bound t (publication_of tab u)
  bound_by t (carried r) y e q = inl (refl, ap (element_of E) (sym q))
  bound_by t (by r k i) y e q =
      inr ((y.1, is (writes_in a.grid s k) (subst (λ (z : ℕ). T (writes_in a.grid z k)) e y.2), y.3), ap (λ (z : ℕ). E.writer z k i) (sym e) ∙ ap (element_of E) (sym q))

  module _ (t : ℕ) (h : t ≤ hyper tab) {p : Publication} (e : p ≡ binding_of a.tasks (writes_in a.grid s) t) where
    bound_cases : Bound t p
    bound_cases =
        subst (Bound t) (sym (e ∙ binding_is a.tasks a.signals a.grid a.fits s t v.listed))
        (bound_by t (bound tab s t) (bound_value tab a.fits s v.listed t h) (bound_signal tab s t) refl)

    pub bound_carried : p.task ≡ 255 → 0 ≡ element_of E (bound tab s t)
    bound_carried q = ⊎_elim (λ x. x.1) (λ x. absurd (omega (arith, x.0.0, a.fits.few_tasks))) bound_cases

    pub bound_written : (p.task ≡ 255 → ⊥) → Has v Side.Writers p.task p.instance × (E.writer s p.task p.instance ≡ element_of E (bound tab s t))
    bound_written n = ⊎_elim (λ x. absurd (n x.0)) (λ x. x) bound_cases

  pub records_few : (side : Side) (k : ℕ) → k < a.tasks.count → users_of v.users.now.grid.now v.users.now.instances side s k ≤ longest
  records_few side k h = users_few v.users.now.grid.now v.users.now.instances side s k refl (v.users.now.short k (omega (arith, v.their.tasks)))

  pub records_are : (side : Side) (k : ℕ) → k < a.tasks.count → users_of v.users.now.grid.now v.users.now.instances side s k ≡ records_in tab a.grid side s k
  unfolding users_of records_in
  records_are side k h = ap₂ (λ g n. times (permits g side s k) n) v.their.grid (v.their.instances k h ∙ ap (λ n. n / (task_of a.tasks k).period) a.own)

  -- the end of a life
  pub until_of_lem : (u : Value) → IsValue tab u → {r : ℕ} → r ≡ until_of a.tasks (writes_in a.grid (signal_of u)) (reads_in a.grid (signal_of u)) a.hyper (closing tab u) → r ≡ until tab u
  until_of_lem u x h =
      h ∙ ap (λ n. until_of a.tasks (writes_in a.grid (signal_of u)) (reads_in a.grid (signal_of u)) n (closing tab u)) a.own ∙ until_is a.tasks a.signals a.grid a.fits u x
