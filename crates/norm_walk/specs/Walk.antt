-- For the proofs of the code alone: no public promise and no law cites this, and an auditor may skip it.
-- The first unsound sum of a normal file.
use Rattle.std.specs.Prelude.{ℕ, ◌+◌, List, Bool}
use Rattle.byte_words.specs.Words.{word}
use Rattle.num_packed.specs.Triangle.{tri}
use Rattle.norm_sum.specs.Sums.{sums_at}
use Rattle.norm_system.specs.System.{Where, sums_where}

-- the first unsound sum of those of p labels that stand at these places
unfoldable pub unsound_at : Bool → List ℕ → ℕ → ℕ → ℕ → ℕ → ℕ → Where
unsound_at small s arcs p matrix rights totals =
    sums_where small arcs p (sums_at s matrix (tri p)) (sums_at s rights p) (word 8 s totals) (word 8 s (totals + 8))
