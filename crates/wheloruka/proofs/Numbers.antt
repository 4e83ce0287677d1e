-- A result in lent room of what an entry told, where that is what the definition says.
-- Assumes nothing.
use Prim.Native.Nat.{ℕ}
use mathlib.Core.Path.{◌≡◌, ap, ◌∙◌}
use mathlib.Core.List.{List}
use lib.ListN.{length}
use Rattle.num_whole.specs.Answer.{Answered}
use Rattle.call_rooms.specs.Result.{result_number, result_left, told_values}

module _ {A B : Type 0} (f : A → List B) {x y : Answered A} (e : x ≡ y) (out : List B) where
  pub as_told : {n : ℕ} {left : List B} → (n ≡ result_number (told_values f x) (length out)) × (left ≡ result_left (told_values f x) out)
      → (n ≡ result_number (told_values f y) (length out)) × (left ≡ result_left (told_values f y) out)
  as_told put = (put.0 ∙ ap (λ z. result_number (told_values f z) (length out)) e, put.1 ∙ ap (λ z. result_left (told_values f z) out) e)
