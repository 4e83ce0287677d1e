-- For the proofs of the code alone: no public promise and no law cites this, and an auditor may skip it.
-- Sums that the bounds alone judge: where each diagonal is above 0, none has to be 0.
use Rattle.std.specs.Prelude.{ℕ, Bool, false, not, cond, List, ℤ, pos, neg_ℤ, get_or}
use Rattle.std.specs.Int.Signed.{lt_z}
use Rattle.num_packed.specs.Sound.{entry}

-- the diagonal of parameter i is above 0
unfoldable pub seen_at : List ℤ → ℕ → Bool
seen_at s i = lt_z (pos 0) (entry s i i)

-- sum k is neither above a bound nor below its negative
unfoldable pub within_at : ℤ → List ℤ → ℕ → Bool
within_at b s k = cond (lt_z b (get_or s k (pos 0))) false (not (lt_z (get_or s k (pos 0)) (neg_ℤ b)))
