-- Lent room for sums: cleared as far as an empty state has them. "A longer buffer keeps its rest."
use Rattle.std.specs.Prelude.{ℕ, List, ◌++◌, ℤ, pos, drop, replicate}

-- a list with its first n numbers 0
unfoldable pub cleared : ℕ → List ℤ → List ℤ
cleared n l = replicate n (pos 0) ++ drop n l
