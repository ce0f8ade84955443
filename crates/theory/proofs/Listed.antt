-- A table as three lists: its tasks, its defaults and its accesses in order. Its bytes are theirs, and tables with the same lists agree. Assumes nothing.
use Prim.Native.Nat.{ℕ, zero, suc, ◌+◌, ◌*◌, ◌≤◌, ◌<◌}
use mathlib.Core.Path.{◌≡◌, refl, sym, ap, ap₂, subst, ◌∙◌}
use mathlib.Core.Bool.{Bool, true, false, cond}
use mathlib.Core.List.{List, [], ◌∷◌, ◌++◌, flat_map}
use native.Mathlib.Omega.{arith}
use lib.Dec.{eqb}
use lib.ListN.{length, get_or, length-append, get_or-append}
use lib.Seq.{ext_get_or, get_or-append_seam}
use borrow.Author.Tests.{eqb-true, eqb-false}
use Rattle.rules.specs.Words.{total, gather, only, bit}
use Rattle.rules.specs.Windows.{Table}
use Rattle.rules.specs.Table.{accesses_of, accesses}
use Rattle.rules.specs.Fields.{EN}
use Rattle.rules.specs.Encode.{task_bytes, signal_bytes, access_bytes, encode}
use Rattle.rules.specs.Records.{key_of}
use Rattle.rules.specs.Reading.{no_task}
use Rattle.rules.specs.declared.Task.{Task}
use Rattle.rules.specs.declared.Access.{Access}
use Rattle.theory.specs.TableBytes.{SameTable}
use Rattle.theory.proofs.Tests.{split, agree}
use Rattle.theory.proofs.Lists.{In, in_left, in_right, in_gather, in_only, All, all_in, all_append, all_gather, all_only, Rising, rising_up, rising_append, rising_gather, rising_only, flat_gather}
use Rattle.theory.proofs.Records.{task_form, signal_form, access_form, each_right, Names}

-- ---- the list of f 0, .. f (n - 1)

module _ {A : Type 0} where
  abbrev pub listed : (ℕ → A) → ℕ → List A
  listed f n = gather n (λ k. f k ∷ [])

  length_gather : (f : ℕ → List A) (g : ℕ → ℕ) (n : ℕ) → ((k : ℕ) → length (f k) ≡ g k) → length (gather n f) ≡ total g n
  unfolding gather total
  length_gather f g zero e = refl
  length_gather f g (suc n) e = length-append (gather n f) (f n) ∙ ap₂ ◌+◌ (length_gather f g n e) (e n)

  pub listed_length : (f : ℕ → A) (n : ℕ) → length (listed f n) ≡ n
  unfolding gather
  listed_length f zero = refl
  listed_length f (suc n) = omega (arith, length-append (listed f n) (f n ∷ []), listed_length f n)

  pub listed_at : (d : A) (f : ℕ → A) (n k : ℕ) → k < n → get_or (listed f n) k d ≡ f k
  unfolding gather
  listed_at d f zero k h = absurd (omega arith)
  listed_at d f (suc n) k h =
      split (eqb k n)
      (λ q. rw (eqb-true k n q) (subst (λ m. get_or (listed f n ++ f n ∷ []) m d ≡ f n) (listed_length f n) (get_or-append_seam (listed f n) (f n) [] d)))
      (λ q. let z = eqb-false k n q in get_or-append (listed f n) (f n ∷ []) d k (omega (arith, listed_length f n)) ∙ listed_at d f n k (omega arith))

  -- a list is the list of what stands in it
  pub listed_is : (d : A) (f : ℕ → A) (n : ℕ) (xs : List A) → n ≡ length xs → ((k : ℕ) → k < length xs → f k ≡ get_or xs k d) → listed f n ≡ xs
  listed_is d f n xs e g =
      ext_get_or d (listed f n) xs (listed_length f n ∙ e) (λ i h. let z = listed_length f n in listed_at d f n i (omega arith) ∙ g i (omega arith))

abbrev pub access : ℕ → ℕ → ℕ → Access
access k s r = record { task = k; signal = s; right = r }

module _ (tab : Table) where
  abbrev pub task_no : ℕ → Task
  task_no k = record { period = tab.period k; start = tab.start k; end = tab.end k }

  abbrev pub task_list : List Task
  task_list = listed task_no tab.tasks

  abbrev pub default_list : List ℕ
  default_list = listed tab.default tab.signals

  abbrev accesses_to : ℕ → ℕ → List Access
  accesses_to k s = only (tab.reads s k) (access k s 1) ++ only (tab.writes s k) (access k s 2)

  abbrev pub access_list : List Access
  access_list = gather tab.tasks (λ k. gather tab.signals (accesses_to k))

  -- ---- the bytes

  access_bytes_lem : (k s : ℕ) (r w : Bool) → flat_map access_form (only r (access k s 1) ++ only w (access k s 2)) ≡ cond r (access_form (access k s 1)) [] ++ cond w (access_form (access k s 2)) []
  unfolding flat_map
  access_bytes_lem k s true true = refl
  access_bytes_lem k s true false = refl
  access_bytes_lem k s false true = refl
  access_bytes_lem k s false false = refl

  pub encode_lists : encode tab ≡ flat_map task_form task_list ++ flat_map signal_form default_list ++ flat_map access_form access_list ++ EN
  unfolding encode flat_map
  encode_lists =
      sym (rw (
        flat_gather task_form (λ k. task_no k ∷ []) (task_bytes tab) tab.tasks (λ k. refl),
        flat_gather signal_form (λ s. tab.default s ∷ []) (signal_bytes tab) tab.signals (λ s. refl),
        flat_gather access_form (λ k. gather tab.signals (accesses_to k)) (λ k. gather tab.signals (access_bytes tab k)) tab.tasks
            (λ k. flat_gather access_form (accesses_to k) (access_bytes tab k) tab.signals (λ s. access_bytes_lem k s (tab.reads s k) (tab.writes s k))),
      ))

  -- ---- the accesses

  only_length : {A : Type 0} (b : Bool) (x : A) → length (only b x) ≡ bit b
  only_length true x = refl
  only_length false x = refl

  pub accesses_length : length access_list ≡ accesses tab
  unfolding accesses accesses_of
  accesses_length =
      length_gather (λ k. gather tab.signals (accesses_to k)) _ tab.tasks (λ k. length_gather (accesses_to k) _ tab.signals
      (λ s. length-append (only (tab.reads s k) (access k s 1)) (only (tab.writes s k) (access k s 2)) ∙ ap₂ ◌+◌ (only_length (tab.reads s k) (access k s 1)) (only_length (tab.writes s k) (access k s 2))))

  abbrev pub allowed : Access → Bool
  allowed x = cond (eqb x.right 1) (tab.reads x.signal x.task) (tab.writes x.signal x.task)

  -- the table has this access
  pub record Has (x : Access) : Type 0 where
    pub names : Names tab.tasks tab.signals x
    pub allows : allowed x ≡ true

  pub all_has : All Has access_list
  all_has =
      all_gather Has (λ k. gather tab.signals (accesses_to k)) tab.tasks (λ k h. all_gather Has (accesses_to k) tab.signals (λ s l.
      all_append Has (only (tab.reads s k) (access k s 1)) (only (tab.writes s k) (access k s 2))
      (all_only Has (tab.reads s k) (access k s 1) (λ a. record { names = record { task = h; signal = l; some_right = omega arith; right = omega arith }; allows = a }))
      (all_only Has (tab.writes s k) (access k s 2) (λ a. record { names = record { task = h; signal = l; some_right = omega arith; right = omega arith }; allows = a }))))

  pub in_accesses : (x : Access) → Has x → In x access_list
  in_accesses x h =
      in_gather x (λ k. gather tab.signals (accesses_to k)) tab.tasks x.task h.names.task (in_gather x (accesses_to x.task) tab.signals x.signal h.names.signal
      (each_right (λ r. allowed (access x.task x.signal r) ≡ true → In (access x.task x.signal r) (accesses_to x.task x.signal))
      (λ e. in_left (access x.task x.signal 1) (only (tab.reads x.signal x.task) (access x.task x.signal 1)) _ (in_only (access x.task x.signal 1) (tab.reads x.signal x.task) e))
      (λ e. in_right (access x.task x.signal 2) (only (tab.reads x.signal x.task) (access x.task x.signal 1)) _ (in_only (access x.task x.signal 2) (tab.writes x.signal x.task) e))
      x.right h.names.some_right h.names.right h.allows))

  -- they rise by task, then signal, then RD before WR
  pub accesses_rise : tab.signals ≤ 256 → Rising key_of 1 access_list (1 + tab.tasks * 1024)
  accesses_rise few =
      rising_gather key_of 1 1024 (λ k. gather tab.signals (accesses_to k)) tab.tasks (λ k h.
      rising_up key_of (1 + k * 1024) (1 + k * 1024 + tab.signals * 4) (1 + suc k * 1024) (gather tab.signals (accesses_to k)) (omega arith)
      (rising_gather key_of (1 + k * 1024) 4 (accesses_to k) tab.signals (λ s l.
      let lo = 1 + k * 1024 + s * 4 in
      rising_up key_of lo (suc (suc lo)) (1 + k * 1024 + suc s * 4) (accesses_to k s) (omega arith)
      (rising_append key_of lo (suc lo) (suc (suc lo)) (only (tab.reads s k) (access k s 1)) (only (tab.writes s k) (access k s 2))
      (rising_only key_of lo (tab.reads s k) (access k s 1) (λ e. omega arith)) (rising_only key_of (suc lo) (tab.writes s k) (access k s 2) (λ e. omega arith))))))

-- ---- tables with the same lists agree

module _ (a b : Table) (tasks : task_list a ≡ task_list b) (defaults : default_list a ≡ default_list b) (accs : access_list a ≡ access_list b) where
  so_many : a.tasks ≡ b.tasks
  so_many = sym (listed_length _ a.tasks) ∙ ap length tasks ∙ listed_length _ b.tasks

  signals_too : a.signals ≡ b.signals
  signals_too = sym (listed_length _ a.signals) ∙ ap length defaults ∙ listed_length _ b.signals

  field : (f : Task → ℕ) (k : ℕ) → k < b.tasks → f (task_no a k) ≡ f (task_no b k)
  field f k h = ap f (sym (listed_at no_task _ a.tasks k (omega (arith, so_many))) ∙ ap (λ l. get_or l k no_task) tasks ∙ listed_at no_task _ b.tasks k h)

  default_too : (s : ℕ) → s < b.signals → a.default s ≡ b.default s
  default_too s h = sym (listed_at 0 a.default a.signals s (omega (arith, signals_too))) ∙ ap (λ l. get_or l s 0) defaults ∙ listed_at 0 b.default b.signals s h

  access_too : (x : Access) → x.signal < b.signals → x.task < b.tasks → 0 < x.right → x.right < 3 → allowed a x ≡ allowed b x
  access_too x l h r t =
      agree
      (λ e. (all_in (Has b) (access_list b) (all_has b) x (subst (In x) accs (in_accesses a x (record { names = record { task = omega (arith, so_many); signal = omega (arith, signals_too); some_right = r; right = t }; allows = e })))).allows)
      (λ e. (all_in (Has a) (access_list a) (all_has a) x (subst (In x) (sym accs) (in_accesses b x (record { names = record { task = h; signal = l; some_right = r; right = t }; allows = e })))).allows)

  pub same_lists : SameTable a b
  same_lists = record {
    tasks = so_many;
    period = field (λ t. t.period);
    start = field (λ t. t.start);
    end = field (λ t. t.end);
    signals = signals_too;
    default = default_too;
    reads = λ s k l h. access_too (access k s 1) l h (omega arith) (omega arith);
    writes = λ s k l h. access_too (access k s 2) l h (omega arith) (omega arith);
  }
