-- A machine's answers to two lists of records, one after the other.
-- Assumes nothing.
use mathlib.Core.Path.{◌≡◌, refl, ap}
use mathlib.Core.List.{List, [], ◌∷◌, ◌++◌}
use Rattle.take_laws.specs.Machine.{run, answers}

pub answers_append : {R S A : Type 0} (step : R → S → S) (ans : R → S → A) (s : S) (l m : List R)
    → answers step ans s (l ++ m) ≡ answers step ans s l ++ answers step ans (run step s l) m
unfolding run answers
answers_append step ans s [] m = refl
answers_append step ans s (r ∷ l) m = ap (λ x. ans r s ∷ x) (answers_append step ans (step r s) l m)
