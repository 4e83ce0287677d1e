-- A machine that takes records one by one: where it ends, and what it answers.
use Rattle.std.specs.Prelude.{List, [], ◌∷◌}

module _ {R S : Type 0} (step : R → S → S) where
  -- the state after a list of records
  unfoldable pub run : S → List R → S
  run s [] = s
  run s (r ∷ l) = run (step r s) l

  -- the answer to each of them
  module _ {A : Type 0} (answer : R → S → A) where
    unfoldable pub answers : S → List R → List A
    answers s [] = []
    answers s (r ∷ l) = answer r s ∷ answers (step r s) l
