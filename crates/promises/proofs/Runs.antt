-- The machine runs as promised: specs/Runs.antt, proved.
use Rattle.std.specs.Prelude.{Result, Ok, Err}
use Prim.Native.Nat.{ℕ}
use mathlib.Core.Path.{◌≡◌, refl, sym, ap, ap₂, subst, ◌∙◌}
use mathlib.Core.Bool.{true, false}
use mathlib.Core.Logic.{◌↔◌, ◌⊎◌, inl, inr}
use mathlib.Core.List.{List, [], ◌∷◌, ◌++◌, map}
use native.Mathlib.Omega.{arith}
use borrow.Author.Tests.{eqb-false, eq-eqb}
use Rattle.rules.specs.Words.{when}
use Rattle.rules.specs.Windows.{Table}
use Rattle.rules.specs.Table.{Fits}
use Rattle.rules.specs.Numbers.{Told, tell, told, no_access, outside, unfit}
use Rattle.rules.specs.Stores.{word_in}
use Rattle.rules.specs.Bytes.{schedule_in}
use Rattle.rules.specs.Reading.{table_in}
use Rattle.rules.specs.Meaning.{word, Call, step, read, write, refused, past}
use Rattle.rules.specs.Machine.{State, Layout, separate, loaded, answer, after, run}
use Rattle.rules.specs.Loading.{Request, load, call, load_says, accepts, idle, on, reply, following, replies, Story, untold, since, telling}
use Rattle.rules.specs.Loading as loading
use Rattle.rules.specs.declared.Refusal.{Refusal}
use Rattle.theory.specs.Promises.{Demand3}
use Rattle.theory.proofs.Tests.{split}
use Rattle.theory.proofs.Loads.{load_accepts}
use Rattle.theory.proofs.Proved.{loadings_as_meant, machine_as_demanded}
use Rattle.fields.proofs.Told.{told_exact}
use Rattle.machine.specs.declared.Machine.{Machine}
use Rattle.machine.specs.declared.Stepped.{Stepped}
use Rattle.machine.specs.declared.WordRead.{WordRead}
use Rattle.state.specs.Parts as parts
use Rattle.state.specs.Rows.{place_of}
use Rattle.state.proofs.Places.{place_cases}
use Rattle.machine.specs.Calls.{keeping, unloaded, fit, Left, read_at, written_at, step_in, read_in, write_in}
use Rattle.machine.specs.Gives.{NewGives}
use Rattle.machine.specs.Load.{load_leaves}
use Rattle.machine.proofs.Load.{refused_stays}
use Rattle.simulation.specs.Simulates.{Runs, Said, said, outcome_said, call_said, call_leaves}
use Rattle.simulation.proofs.Fit.{unloaded_unfit, unfit_exact, refused_leaves, step_fits, write_fits}
use Rattle.simulation.proofs.Simulates.{simulates}
use Rattle.simulation.proofs.Started.{loads_exact, loads_right}
use Rattle.promises.proofs.Schedules.{passing_done, done_passing}
use Rattle.export.specs.Gives.{PressNewGives}
use Rattle.promises.specs.Runs.{Gives, loads, steps, reads, writes, lists_loads, lists_steps, lists_reads, lists_writes, press_loads, press_steps, press_reads, press_writes, Run, none, next, reply_said, story_of, AnyCall, AnyCalls, NextCall, AsPromised, RunsAsPromised, LoadsExactly}

-- ---- what the contracts say of each request, as functions

abbrev code_said : Machine → Request → Said
code_said m (load table schedule) = said (load_says table schedule) 0
code_said m (call c) = call_said m c

abbrev code_leaves : Machine → Request → Machine
code_leaves m (load table schedule) = load_leaves m table schedule
code_leaves m (call c) = call_leaves m c

-- the place of what a call says is 0
read_place : (n store : List ℕ) (k s : ℕ) → (told (read_at store (place_of n parts.reads k s)).answer).place ≡ 0
read_place n store k s = place_cases (λ p. (told (read_at store p).answer).place ≡ 0) (λ p. refl) refl refl n parts.reads k s

write_place : (n store : List ℕ) (w k s : ℕ) → (told (written_at n store w (place_of n parts.writes k s)).answer).place ≡ 0
write_place n store w k s = place_cases (λ p. (told (written_at n store w p).answer).place ≡ 0) (λ p. refl) refl refl n parts.writes k s

no_place : (m : Machine) (c : Call) → (call_said m c).told.place ≡ 0
unfolding step_in read_in write_in when
no_place m step = split (fit m) (λ f. rw f) (λ f. rw f)
no_place m (read k s) = split (fit m) (λ f. rw f (read_place m.numbers m.store k s)) (λ f. rw f)
no_place m (write k s c) = split (fit m) (λ f. rw f (write_place m.numbers m.store (word_in c) k s)) (λ f. rw f)

-- what C is told of a call
told_from_C : (m : Machine) (c : Call) (number w : ℕ) → number ≡ (call_said m c).told.number → w ≡ (call_said m c).word → said (tell number 0) w ≡ call_said m c
told_from_C m c number w e f = λ i. said (tell (e i) (sym (no_place m c) i)) (f i)

gives_said : (m : Machine) (e : Request) (a : Said) (n : Machine) → Gives m e a n → (a ≡ code_said m e) × (n ≡ code_leaves m e)
gives_said m e a n (loads table schedule r f) = (ap (λ (t : Told). said t 0) f.0, f.1)
gives_said m e a n (steps r f) = (ap (λ (x : Stepped). said (told x.answer) 0) f, ap (λ (x : Stepped). x.machine) f)
gives_said m e a n (reads k s r f) = (ap (λ (x : WordRead). said (told x.answer) x.word) f, refl)
gives_said m e a n (writes k s w r f) = (ap (λ (x : Stepped). said (told x.answer) 0) f, ap (λ (x : Stepped). x.machine) f)
gives_said m e a n (lists_loads table schedule r p d q f) = (ap (λ (t : Told). said t 0) f.0, f.1)
gives_said m e a n (lists_steps r p q f) = (ap (λ (x : Left). said (told x.answer) 0) f, ap (λ (x : Left). keeping x.numbers m.defaults x.store) f)
gives_said m e a n (lists_reads k s r f) = (ap (λ (x : WordRead). said (told x.answer) x.word) f, refl)
gives_said m e a n (lists_writes k s w r q f) = (ap (λ (x : Left). said (told x.answer) 0) f, ap (λ (x : Left). keeping x.numbers m.defaults x.store) f)
gives_said m e a n (press_loads table schedule number place p d q f) = (λ i. said (tell (f.0 i) (f.1 i)) 0, f.2)
gives_said m e a n (press_steps number p q f) = (told_from_C m step number 0 f.0 refl, λ i. keeping (f.1 i) m.defaults (f.2 i))
gives_said m e a n (press_reads k s number w f) = (told_from_C m (read k s) number w f.0 f.1, refl)
gives_said m e a n (press_writes k s w number q f) = (told_from_C m (write k s (word w)) number 0 f.0 refl, λ i. keeping (f.1 i) m.defaults (f.2 i))

-- ---- demand 1 of any call

-- a call's answer that has 25 is Unfit
unfit_answer : (m : Machine) (c : Call) (x : Result ℕ Refusal) → told x ≡ (call_said m c).told → (call_said m c).told.number ≡ unfit → x ≡ (Err Refusal.Unfit)
unfit_answer m c x e q = told_exact x (Err Refusal.Unfit) (e ∙ (λ i. tell (q i) (no_place m c i)))

call_unfit : (m : Machine) (c : Call) → ((call_said m c).told.number ≡ unfit) ↔ (fit m ≡ false)
call_unfit m step = (λ q. (unfit_exact m).step.0 (unfit_answer m step _ refl q), λ f. ap (λ (x : Result ℕ Refusal). (told x).number) ((unfit_exact m).step.1 f))
call_unfit m (read k s) = (λ q. ((unfit_exact m).read k s).0 (unfit_answer m (read k s) _ refl q), λ f. ap (λ (x : Result ℕ Refusal). (told x).number) (((unfit_exact m).read k s).1 f))
call_unfit m (write k s c) =
    (λ q. ((unfit_exact m).write k s (word_in c)).0 (unfit_answer m (write k s c) _ refl q), λ f. ap (λ (x : Result ℕ Refusal). (told x).number) (((unfit_exact m).write k s (word_in c)).1 f))

call_refused : (m : Machine) (c : Call) → ((call_said m c).told.number ≡ 0 → ⊥) → (call_leaves m c ≡ m) × ((call_said m c).word ≡ 0)
call_refused m step n = ((refused_leaves m).step (λ e. n (ap (λ (x : Result ℕ Refusal). (told x).number) e)), refl)
call_refused m (read k s) n = (refl, (refused_leaves m).read k s (λ e. n (ap (λ (x : Result ℕ Refusal). (told x).number) e)))
call_refused m (write k s c) n = ((refused_leaves m).write k s (word_in c) (λ e. n (ap (λ (x : Result ℕ Refusal). (told x).number) e)), refl)

call_fits : (m : Machine) (c : Call) → fit m ≡ true → fit (call_leaves m c) ≡ true
call_fits m step f = step_fits m f
call_fits m (read k s) f = f
call_fits m (write k s c) f = write_fits m k s (word_in c) f

not_both : (table schedule : List ℕ) (c : Call) → load table schedule ≡ call c → ⊥
not_both table schedule c e = let z : ◌≡◌ {A = ℕ} 0 1 = cc in omega arith

any_code : (m : Machine) (e : Request) → AnyCall m e (code_said m e) (code_leaves m e)
any_code m (load table schedule) =
    record {
      refused = λ n. (refused_stays table schedule m n, refl);
      unfit_is = λ c q. absurd (not_both table schedule c q);
      stays_fit = λ f. split (accepts table schedule)
          (λ q. (loads_right m table schedule q).fits)
          (λ q. rw (refused_stays table schedule m (eqb-false (load_says table schedule).number 0 q)) f);
      accepted = λ t s q done. (loads_right m table schedule (eq-eqb (load_says table schedule).number 0 done)).fits;
    }
any_code m (call c) =
    record {
      refused = call_refused m c;
      unfit_is = λ d q. call_unfit m c;
      stays_fit = call_fits m c;
      accepted = λ t s q. absurd (not_both t s c (sym q));
    }

pub any_calls : AnyCalls
any_calls m e a n g =
    let (x, y) = gives_said m e a n g in
    subst (λ (z : Said). AnyCall m e z n) (sym x) (subst (λ (z : Machine). AnyCall m e (code_said m e) z) (sym y) (any_code m e))

-- ---- one call more

run_snoc : (tab : Table) (L : Layout) (cs : List Call) (st : State) (c : Call) → run tab L st (cs ++ c ∷ []) ≡ after tab L (run tab L st cs) c
unfolding run
run_snoc tab L [] st c = refl
run_snoc tab L (d ∷ cs) st c = run_snoc tab L cs (after tab L st d) c

past_snoc : (cs h : List Call) (c : Call) → past h (cs ++ c ∷ []) ≡ c ∷ past h cs
unfolding past
past_snoc [] h c = refl
past_snoc (d ∷ cs) h c = past_snoc cs (d ∷ h) c

-- ---- the machine stands where document 01's machine and the story stand

data Stands : Machine → loading.Running → Story → Type 0 where
  fresh : (m : Machine) → m ≡ unloaded → Stands m idle untold
  going : (tab : Table) (L : Layout) (F : Fits tab) (D : (cs : List Call) → Demand3 tab L cs) (cs : List Call) (m : Machine) → Runs tab L (run tab L (loaded tab L) cs) m
      → Stands m (on tab L (run tab L (loaded tab L) cs)) (since tab (past [] cs))

-- before the first accepted loading every call is refused with 25
unfit_said : (c : Call) → (call_said unloaded c ≡ outcome_said (refused unfit)) × (call_leaves unloaded c ≡ unloaded)
unfolding step_in read_in write_in when
unfit_said step = rw unloaded_unfit (refl, refl)
unfit_said (read k s) = rw unloaded_unfit (refl, refl)
unfit_said (write k s c) = rw unloaded_unfit (refl, refl)

right_said : (e : Request) (m : Machine) (r : loading.Running) (h : Story) → Stands m r h → code_said m e ≡ reply_said (reply r e)
unfolding reply
right_said (load table schedule) m r h S = refl
right_said (call c) m idle untold (fresh n e) = ap (λ x. call_said x c) e ∙ (unfit_said c).0
right_said (call c) m (on t G st) (since u g) (going tab L F D cs n R) = (simulates tab L F (run tab L (loaded tab L) cs) m R c).0
right_said (call c) m idle (since u g) S = elim S [ ]
right_said (call c) m (on t G st) untold S = elim S [ ]

stands_after : (e : Request) (m : Machine) (r : loading.Running) (h : Story) → Stands m r h → Stands (code_leaves m e) (following r e) (telling h e)
unfolding following telling run past
stands_after (load table schedule) m r h S =
    let tab = table_in table in
    let E = schedule_in tab schedule in
    let L = separate tab E in
    split (accepts table schedule)
    (λ q. let (F, A) = load_accepts table schedule q in rw q (going tab L F (machine_as_demanded tab F E A) [] (load_leaves m table schedule) (loads_right m table schedule q)))
    (λ q. rw (q, refused_stays table schedule m (eqb-false (load_says table schedule).number 0 q)) S)
stands_after (call c) m idle untold (fresh n e) = fresh (call_leaves m c) (ap (λ x. call_leaves x c) e ∙ (unfit_said c).1)
stands_after (call c) m (on t G st) (since u g) (going tab L F D cs n R) =
    rw (← run_snoc tab L cs (loaded tab L) c, ← past_snoc cs [] c)
    (going tab L F D (cs ++ c ∷ []) (call_leaves m c) (rw (run_snoc tab L cs (loaded tab L) c) (simulates tab L F (run tab L (loaded tab L) cs) m R c).1))
stands_after (call c) m idle (since u g) S = elim S [ ]
stands_after (call c) m (on t G st) untold S = elim S [ ]

stands_run : (es : List Request) (rs : List Said) (m n : Machine) (r : loading.Running) (h : Story) → Stands m r h → Run m es rs n
    → (rs ≡ map reply_said (replies r es)) × ((q : loading.Running) × Stands n q (story_of h es))
unfolding replies story_of
stands_run [] [] m n r h S (none k) = (refl, (r, S))
stands_run (f ∷ fs) (b ∷ bs) m n r h S (next l k o e a es rs g R) =
    let (x, y) = gives_said m e a k g in
    let (p, q) = stands_run es rs k n (following r e) (telling h e) (subst (λ z. Stands z (following r e) (telling h e)) (sym y) (stands_after e m r h S)) R in
    (ap₂ ◌∷◌ (x ∙ right_said e m r h S) p, q)
stands_run [] (b ∷ bs) m n r h S R = elim R [ ]
stands_run (f ∷ fs) [] m n r h S R = elim R [ ]

-- ---- the next call, in the demand's words

going_on : (tab : Table) (L : Layout) → Fits tab → (cs : List Call) → Demand3 tab L cs → (m : Machine) → Runs tab L (run tab L (loaded tab L) cs) m → NextCall tab (past [] cs) m
going_on tab L F cs D m R =
    record {
      ready = R.fits;
      read_inside = λ k s i p o a n g. says (read k s) a n g ∙ ap outcome_said (D.read_inside k s i p o);
      write_inside = λ k s w i p o a n g. says (write k s (word w)) a n g ∙ ap outcome_said (D.write_inside k s (word w) i p o);
      steps = λ a n g. says step a n g ∙ ap outcome_said D.steps;
      read_outside = λ k s p o a n g. refuses (read k s) a n outside g (says (read k s) a n g ∙ ap outcome_said (D.read_outside k s p o)) (λ z. omega arith);
      write_outside = λ k s w p o a n g. refuses (write k s (word w)) a n outside g (says (write k s (word w)) a n g ∙ ap outcome_said (D.write_outside k s (word w) p o)) (λ z. omega arith);
      read_unknown = λ k s u a n g. refuses (read k s) a n no_access g (says (read k s) a n g ∙ ap outcome_said (D.read_unknown k s u)) (λ z. omega arith);
      write_unknown = λ k s w u a n g. refuses (write k s (word w)) a n no_access g (says (write k s (word w)) a n g ∙ ap outcome_said (D.write_unknown k s (word w) u)) (λ z. omega arith);
    }
  where
    says : (c : Call) (a : Said) (n : Machine) → Gives m (call c) a n → a ≡ outcome_said (answer tab L (run tab L (loaded tab L) cs) c)
    says c a n g = (gives_said m (call c) a n g).0 ∙ (simulates tab L F (run tab L (loaded tab L) cs) m R c).0

    -- a refusal leaves the machine
    refuses : (c : Call) (a : Said) (n : Machine) (number : ℕ) → Gives m (call c) a n → a ≡ said (tell number 0) 0 → (number ≡ 0 → ⊥) → (a ≡ said (tell number 0) 0) × (n ≡ m)
    refuses c a n number g e z = (e, ((any_calls m (call c) a n g).refused (λ q. z (sym (ap (λ (x : Said). x.told.number) e) ∙ q))).0)

Promised : Machine → Story → Type 0
Promised m untold = m ≡ unloaded
Promised m (since tab h) = NextCall tab h m

stands_promised : (m : Machine) (r : loading.Running) (h : Story) → Stands m r h → Promised m h
unfolding Promised
stands_promised m idle untold (fresh n e) = e
stands_promised m (on t G st) (since u g) (going tab L F D cs n R) = going_on tab L F cs (D cs) m R
stands_promised m idle (since u g) S = elim S [ ]
stands_promised m (on t G st) untold S = elim S [ ]

new_promised : (new : Machine) → new ≡ unloaded → (es : List Request) (rs : List Said) (m : Machine) → Run new es rs m → AsPromised es rs m
unfolding Promised
new_promised new g es rs m R =
    let (q, (r, S)) = stands_run es rs new m idle untold (fresh new g) R in
    let p = stands_promised m r (story_of untold es) S in
    record {
      answers = q ∙ ap (map reply_said) (loadings_as_meant es);
      running = λ tab h e. subst (Promised m) e p;
      untouched = λ e. subst (Promised m) e p;
    }

-- an accepted loading leaves of any machine what it leaves of a new one, so the run after it is one of a new machine
anew_promised : (m : Machine) (table schedule : List ℕ) → accepts table schedule ≡ true → (es : List Request) (rs : List Said) (n : Machine)
    → Run m (load table schedule ∷ es) rs n → AsPromised (load table schedule ∷ es) rs n
unfolding load_leaves
anew_promised m table schedule q es [] n R = elim R [ ]
anew_promised m table schedule q es (a ∷ rs) n (next l k o e b fs bs (loads t s r g) R) =
    new_promised unloaded refl (load table schedule ∷ es) (a ∷ rs) n
    (next unloaded r.machine n (load table schedule) a es rs (loads table schedule r (g.0, g.1 ∙ rw q)) R)
anew_promised m table schedule q es (a ∷ rs) n (next l k o e b fs bs (lists_loads t s r x d y g) R) =
    new_promised unloaded refl (load table schedule ∷ es) (a ∷ rs) n
    (next unloaded (keeping x d y) n (load table schedule) a es rs (lists_loads table schedule r x d y (g.0, g.1 ∙ rw q)) R)
anew_promised m table schedule q es (a ∷ rs) n (next l k o e b fs bs (press_loads t s number place x d y g) R) =
    new_promised unloaded refl (load table schedule ∷ es) (a ∷ rs) n
    (next unloaded (keeping x d y) n (load table schedule) a es rs (press_loads table schedule number place x d y (g.0, g.1, g.2 ∙ rw q)) R)

pub runs_as_promised : RunsAsPromised
runs_as_promised = record { new = λ m g. new_promised m (either m g); anew = anew_promised }
  where
    either : (m : Machine) → NewGives m ⊎ PressNewGives m.numbers m.defaults m.store → m ≡ unloaded
    either m (inl e) = e
    either m (inr e) = e

-- ---- loading

pub loads_exactly : LoadsExactly
loads_exactly m table schedule r f =
    record {
      accepted = (λ e. done_passing table schedule (number e), λ (e, (E, A, b)). ap (λ (t : Told). t.number) (f.0 ∙ passing_done table schedule e E A b));
      done = λ e. let (x, (E, A, b)) = done_passing table schedule (number e) in told_exact r.answer (Ok 0) (f.0 ∙ passing_done table schedule x E A b);
      refused = λ n. f.1 ∙ refused_stays table schedule m (λ e. n (ap (λ (t : Told). t.number) f.0 ∙ e));
      one = λ q g. loads_exact m table schedule q r g f;
    }
  where
    number : (told r.answer).number ≡ 0 → (load_says table schedule).number ≡ 0
    number e = sym (ap (λ (t : Told). t.number) f.0) ∙ e
