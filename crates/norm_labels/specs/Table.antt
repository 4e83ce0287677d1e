-- Packed upper triangles by row and column: one of which each sum is given by a function, and the sum that stands in one.
use Rattle.std.specs.Prelude.{List, [], ◌∷◌, ◌++◌, ℕ, zero, suc, ℤ, pos}
use Rattle.num_whole.specs.Tests.{less, up_to, pick}
use Rattle.num_packed.specs.Sound.{entry}

-- m things that a function gives, from the ith on: the sums of a column, right sides, labels
unfoldable pub rows_of : {A : Type 0} → (ℕ → A) → ℕ → ℕ → List A
rows_of f i zero = []
rows_of f i (suc m) = f i ∷ rows_of f (suc i) m

-- m columns from the jth on; column j has the rows up to the jth
unfoldable pub columns_of : (ℕ → ℕ → ℤ) → ℕ → ℕ → List ℤ
columns_of f j zero = []
columns_of f j (suc m) = rows_of (λ i. f i j) 0 (suc j) ++ columns_of f (suc j) m

-- the sum of row i and column j in a triangle of n columns, 0 where it has none
unfoldable pub sum_at : List ℤ → ℕ → ℕ → ℕ → ℤ
sum_at m n i j = pick (less j n) (pick (up_to i j) (entry m i j) (pos 0)) (pos 0)
