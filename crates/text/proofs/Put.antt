-- What is put one after the other is one text. Assumes nothing.
use Prim.Native.Nat.{ℕ}
use mathlib.Core.Path.{◌≡◌, ap, sym, ◌∙◌}
use mathlib.Core.List.{List, [], ◌∷◌, ◌++◌, append_assoc}
use Rattle.rules.specs.Listing.{line_feed, text_of}
use Rattle.console.specs.Page.{Page, put_one, put_all}
use Rattle.console.proofs.Put.{put_append}

-- a text after a text
pub joined : (a b : List ℕ) (p : Page) {q r : Page} → q ≡ put_all a p → r ≡ put_all b q → r ≡ put_all (a ++ b) p
joined a b p e f = f ∙ ap (put_all b) e ∙ sym (put_append a b p)

-- the end of a line
pub fed : (a : List ℕ) (p : Page) {q r : Page} → q ≡ put_all a p → r ≡ put_one line_feed q → r ≡ put_all (text_of (a ∷ [])) p
unfolding text_of
fed a p e f = joined a (line_feed ∷ []) p e f

-- a line that begins with a text
pub led : (a b : List ℕ) (p : Page) {q r : Page} → q ≡ put_all a p → r ≡ put_all (text_of (b ∷ [])) q → r ≡ put_all (text_of ((a ++ b) ∷ [])) p
unfolding text_of
led a b p e f = joined a (b ++ line_feed ∷ []) p e f ∙ ap (λ (l : List ℕ). put_all l p) (sym (append_assoc a b (line_feed ∷ [])))

-- a line, then the others
pub put_lines : (l : List ℕ) (ls : List (List ℕ)) (p : Page) → put_all (text_of (l ∷ ls)) p ≡ put_all (text_of ls) (put_all (text_of (l ∷ [])) p)
unfolding text_of
put_lines l ls p = put_append l (line_feed ∷ text_of ls) p ∙ ap (put_all (text_of ls)) (sym (put_append l (line_feed ∷ []) p))
