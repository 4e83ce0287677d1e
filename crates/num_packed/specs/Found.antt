-- Document 01: "for 6 the first unsound sum in file order". The first number at which a test holds, and the first entry of a packed triangle.
use Rattle.std.specs.Prelude.{ℕ, zero, suc, ◌+◌, Bool, Option, None, Some}
use Rattle.num_whole.specs.Tests.{pick}
use Rattle.num_packed.specs.Triangle.{tri}

-- nothing, or the number of what was found
pub data Found : Type 0 where
  none : Found
  at : ℕ → Found

-- the first of n numbers from i on at which a test holds
unfoldable pub first_from : (ℕ → Bool) → ℕ → ℕ → Found
first_from f i zero = none
first_from f i (suc n) = pick (f i) (at i) (first_from f (i + 1) n)

-- the first entry of n columns from the jth on at whose row and column a test holds, by its number in the packed triangle
unfoldable pub in_column : ℕ → Found → Found → Found
in_column base none rest = rest
in_column base (at i) rest = at (base + i)

unfoldable pub columns_from : (ℕ → ℕ → Bool) → ℕ → ℕ → Found
columns_from f j zero = none
columns_from f j (suc n) = in_column (tri j) (first_from (λ i. f i j) 0 (suc j)) (columns_from f (j + 1) n)

-- what the answer of a walk over sums says
abbrev pub told_walked : Option ℕ → Found
told_walked None = none
told_walked (Some k) = at k
