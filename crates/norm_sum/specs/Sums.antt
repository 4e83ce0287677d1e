-- For the proofs of the code alone: no public promise and no law cites this, and an auditor may skip it.
-- The sums of a normal file where they stand in its bytes, and one sum against its bound.
use Rattle.std.specs.Prelude.{ℕ, List, Bool, true, cond, ℤ, pos, neg_ℤ}
use Rattle.num_whole.specs.Tests.{pick}
use Rattle.std.specs.Int.Signed.{lt_z}
use Rattle.std.specs.Int.{w64}
use Rattle.byte_words.specs.Words.{signed_word}
use Rattle.byte_words.specs.Stands.{stands}

-- n sums of eight bytes
abbrev pub sums_at : List ℕ → ℕ → ℕ → List ℤ
sums_at s place n = stands (signed_word w64 s) 8 n place

-- a sum is larger in size than its bound
unfoldable pub past : ℕ → ℤ → Bool
past b x = cond (lt_z (pos b) x) true (lt_z x (neg_ℤ (pos b)))

-- the least value that a diagonal may have in a form
unfoldable pub least_of : Bool → ℤ
least_of small = pick small (pos 1) (pos 0)
