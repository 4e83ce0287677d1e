-- For the proofs of the code alone: no public promise and no law cites this, and an auditor may skip it.
-- The bytes of a normal file in the parts that the code lays one after the other.
use Rattle.std.specs.Prelude.{ℕ, List, [], ◌∷◌, ◌++◌, ℤ}
use Rattle.byte_words.specs.Words.{bytes_of}
use Rattle.norm_kinds.specs.Kinds.{sum_bytes, totals_bytes}
use Rattle.norm_kinds.specs.Bytes.{sectioned}

-- a label but for its estimate
unfoldable pub name_bytes : ℕ → ℕ → ℕ → ℕ → List ℕ
name_bytes kind index arc weight = bytes_of 2 kind ++ (bytes_of 2 index ++ (bytes_of 4 arc ++ (bytes_of 4 weight ++ bytes_of 4 0)))

-- what follows the labels
unfoldable pub tail_bytes : List ℤ → List ℤ → ℕ → ℕ → List ℕ
tail_bytes m r accepted square =
    sectioned sum_bytes m (sectioned sum_bytes r (sectioned totals_bytes (record { accepted = accepted; square = square } ∷ []) []))
