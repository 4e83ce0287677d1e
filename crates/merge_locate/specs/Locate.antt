-- For the proofs of the code alone: no public promise and no law cites this, and an auditor may skip it.
-- Which of united labels have their sums stored in one file, whose labels stand at a place of its bytes.
use Rattle.std.specs.Prelude.{ℕ, zero, suc, ◌+◌, ◌*◌, List, [], ◌∷◌, Bool, not, get_or}
use Rattle.num_whole.specs.Tests.{less, same, pick, both}
use Rattle.byte_words.specs.Words.{word}

-- the qth of the file's p labels is there, and its field is not 2
unfoldable pub stored_at : List ℕ → ℕ → ℕ → ℕ → Bool
stored_at s labels p q = both (less q p) (not (same (word 4 s (labels + 24 * q + 12)) 2))

-- the ith united one, where a list has the places of all in the file
unfoldable pub stored_for : List ℕ → ℕ → ℕ → List ℕ → ℕ → Bool
stored_for s labels p left i = stored_at s labels p (get_or left i 0)

-- the numbers from i on, of m, at which a test holds
unfoldable pub numbers_where : (ℕ → Bool) → ℕ → ℕ → List ℕ
numbers_where f i zero = []
numbers_where f i (suc m) = pick (f i) (i ∷ numbers_where f (suc i) m) (numbers_where f (suc i) m)
