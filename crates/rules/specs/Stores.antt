-- Where contents stand: the block of words. Assumes nothing.
use Rattle.std.specs.Prelude.{ℕ, Bool, cond, List, set, get_or}
use Rattle.rules.specs.Words.{up_to}
use Rattle.rules.specs.Windows.{Table}
use Rattle.rules.specs.Meaning.{Content, word}

-- All that holds contents during a call.
pub record Memory : Type 0 where
  pub block : List ℕ

-- A place in it, or nowhere, where nothing is kept.
pub data Place : Type 0 where
  in_words : (at : ℕ) → Place
  nowhere : Place

unfoldable pub get : Memory → Place → Content
get m (in_words at) = word (get_or m.block at 0)
get m nowhere = word 0

abbrev pub word_in : Content → ℕ
word_in (word w) = w

unfoldable pub put : Memory → Place → Content → Memory
put m (in_words at) c = record { block = set m.block at (word_in c) }
put m nowhere c = m

abbrev pub move : Memory → (from to : Place) → Memory
move m from to = put m to (get m from)

module _ (tab : Table) where
  -- f of each task and signal, task by task
  abbrev pub sweep : {A : Type 0} → (ℕ → ℕ → A → A) → A → A
  sweep f a = up_to tab.tasks (λ k. up_to tab.signals (f k)) a

  -- what each task that passes the test has of each signal is set to the content of the signal
  unfoldable pub fill : (test : ℕ → ℕ → Bool) → (to : ℕ → ℕ → Place) → (content : ℕ → Content) → Memory → Memory
  fill test to content m = sweep (λ k s a. cond (test s k) (put a (to s k) (content s)) a) m
