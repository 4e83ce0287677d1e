-- Parts that are read one after another, however they are grouped.
-- Assumes nothing.
use mathlib.Core.Path.{◌≡◌, refl}
use Rattle.num_whole.specs.Answer.{Judged, good, bad}
use Rattle.byte_section.specs.Section.{and_then}

-- a part after two
pub then_then : {A B C : Type 0} (j : Judged A) (f : A → Judged B) (g : B → Judged C)
    → and_then (and_then j f) g ≡ and_then j (λ a. and_then (f a) g)
unfolding and_then
then_then (good a) f g = refl
then_then (bad number place) f g = refl

-- a part after one that only makes something else of what was read
pub then_made : {A B C : Type 0} (j : Judged A) (f : A → B) (g : B → Judged C) → and_then (and_then j (λ a. good (f a))) g ≡ and_then j (λ a. g (f a))
unfolding and_then
then_made (good a) f g = refl
then_made (bad number place) f g = refl

-- two that do the same with what was read
pub then_same : {A B : Type 0} (j : Judged A) (f g : A → Judged B) → ((a : A) → j ≡ good a → f a ≡ g a) → and_then j f ≡ and_then j g
unfolding and_then
then_same (good a) f g h = h a refl
then_same (bad number place) f g h = refl
