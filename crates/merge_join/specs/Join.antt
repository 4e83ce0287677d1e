-- Document 01, 'Normal file': "Merging .. unites labels and arcs". Two ascending lists of numbers (arcs, or the keys of labels) united in
-- order, and where each number of the union stands in the one and in the other.
use Rattle.std.specs.Prelude.{◌≡◌, List, [], ◌∷◌, Bool, false, ℕ, ◌<◌, length, get_or}
use Rattle.num_whole.specs.Tests.{less, pick, either}
use Rattle.byte_words.specs.Words.{lay}
use Rattle.norm_system.specs.System.{has}
use Rattle.norm_labels.specs.Seats.{seat, seats}

-- the numbers of both, each once, in order
unfoldable pub union : List ℕ → List ℕ → List ℕ
union [] ys = ys
union (x ∷ xs) [] = x ∷ xs
union (x ∷ xs) (y ∷ ys) =
    pick (less x y) (x ∷ union xs (y ∷ ys))
    (pick (less y x) (y ∷ union (x ∷ xs) ys)
    (x ∷ union xs ys))

-- whether the two have a number in common
unfoldable pub share : List ℕ → List ℕ → Bool
share [] ys = false
share (x ∷ xs) ys = either (has x ys) (share xs ys)

-- the places in l of the numbers of u, one after the other
abbrev pub SeatedAt : List ℕ → List ℕ → List ℕ → Type 0
SeatedAt l u places = (i : ℕ) → i < length u → get_or places i 0 ≡ seat l (get_or u i 0)

-- what a join of xs and ys gives and leaves in two lent rooms: how many numbers the union has, and their places in xs and in ys
pub record Joins (xs ys left₀ right₀ : List ℕ) (n : ℕ) (left right : List ℕ) : Type 0 where
  pub count : n ≡ length (union xs ys)
  pub left_is : left ≡ lay left₀ 0 (seats xs (union xs ys))
  pub right_is : right ≡ lay right₀ 0 (seats ys (union xs ys))
