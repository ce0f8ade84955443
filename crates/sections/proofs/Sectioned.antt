-- A section, one record on, and what each record keeps.
use Prim.Native.Nat.{ℕ, zero, suc}
use mathlib.Core.Path.{◌≡◌, refl, ap, ◌∙◌}
use Rattle.rules.specs.Records.{Step}
use Rattle.rules.specs.Reading.{Section, follow, section}

-- what holds of a step, if it takes a record
abbrev pub Only : {A : Type 0} → (A → Type 0) → Step A → Type 0
Only P (Step.taken a q) = P a
Only P Step.other = Unit {0}
Only P (Step.refused t) = Unit {0}

-- what follows from what a record has passed
pub only : {A : Type 0} {P Q : A → Type 0} → ((a : A) → P a → Q a) → (x : Step A) → Only P x → Only Q x
only f (Step.taken a q) h = f a h
only f Step.other h = h
only f (Step.refused t) h = h

-- what the rest keeps, and the record of this step too, holds of all that is read
followed : {A B : Type 0} (P : B → Type 0) (put : B → A → B) (more : B → ℕ → Section B) (b : B) (p : ℕ) → P b →
    ((b : B) (p : ℕ) → P b → P (more b p).read) → (x : Step A) → Only (λ a. P (put b a)) x → P (follow put more b p x).read
followed P put more b p h rest (Step.taken a q) keeps = rest (put b a) q keeps
followed P put more b p h rest Step.other keeps = h
followed P put more b p h rest (Step.refused t) keeps = h

-- what holds at the start of a section, and what each record that is taken keeps, holds of all that is read
pub kept : {A B : Type 0} (P : B → Type 0) (step : B → ℕ → Step A) (put : B → A → B) →
    ((b : B) (p : ℕ) → P b → Only (λ a. P (put b a)) (step b p)) →
    (n : ℕ) (b : B) (p : ℕ) → P b → P (section step put n b p).read
unfolding section
kept P step put keeps zero b p h = h
kept P step put keeps (suc n) b p h = followed P put (section step put n) b p h (kept P step put keeps n) (step b p) (keeps b p h)

-- two sections of one kind of record that is kept otherwise: what is made of all that the one keeps is what the other keeps
made_on : {A B C : Type 0} (made : B → C) (put : B → A → B) (other : C → A → C) (more : B → ℕ → Section B) (rest : C → ℕ → Section C) →
    ((b : B) (p : ℕ) → made (more b p).read ≡ (rest (made b) p).read) → ((b : B) (a : A) → made (put b a) ≡ other (made b) a) →
    (b : B) (p : ℕ) (x : Step A) → made (follow put more b p x).read ≡ (follow other rest (made b) p x).read
made_on made put other more rest then same b p (Step.taken a q) = then (put b a) q ∙ ap (λ c. (rest c q).read) (same b a)
made_on made put other more rest then same b p Step.other = refl
made_on made put other more rest then same b p (Step.refused t) = refl

pub alike : {A B C : Type 0} (made : B → C) (step : C → ℕ → Step A) (put : B → A → B) (other : C → A → C) → ((b : B) (a : A) → made (put b a) ≡ other (made b) a) →
    (n : ℕ) (b : B) (p : ℕ) → made (section (λ x. step (made x)) put n b p).read ≡ (section step other n (made b) p).read
unfolding section
alike made step put other same zero b p = refl
alike made step put other same (suc n) b p =
    made_on made put other (section (λ x. step (made x)) put n) (section step other n) (alike made step put other same n) same b p (step (made b) p)
