-- For the proofs of the code alone: no public promise and no law cites this, and an auditor may skip it.
-- The stored sums of a file at all its labels, as the code finds them: a label's stored sums stand after those of the stored labels before it.
use Rattle.std.specs.Prelude.{ℕ, ◌+◌, ◌*◌, List, ℤ, pos, length}
use Rattle.std.specs.Int.{w64}
use Rattle.num_whole.specs.Tests.{same, pick}
use Rattle.byte_words.specs.Words.{word, signed_word}
use Rattle.byte_words.specs.Stands.{stands}
use Rattle.num_packed.specs.Triangle.{tri}
use Rattle.norm_kinds.specs.Kinds.{fielded_at, stored_of}

-- how many of the first i labels that stand at a place have their sums stored
unfoldable pub stored_before : List ℕ → ℕ → ℕ → ℕ
stored_before s labels i = length (stored_of (stands (fielded_at s) 24 i labels))

-- a sum, 0 for a label whose field is 2
unfoldable pub unless_two : ℕ → ℤ → ℤ
unless_two field x = pick (same field 2) (pos 0) x

-- the field of label i
abbrev pub field_at : List ℕ → ℕ → ℕ → ℕ
field_at s labels i = word 4 s (labels + 24 * i + 12)

-- label i in the stored sums that begin at a place
unfoldable pub spread_row_at : List ℕ → ℕ → ℕ → ℕ → ℤ
spread_row_at s labels start i = unless_two (field_at s labels i) (signed_word w64 s (start + 8 * stored_before s labels i))

-- labels i and j in the stored columns that begin at a place
unfoldable pub spread_column_at : List ℕ → ℕ → ℕ → ℕ → ℕ → ℤ
spread_column_at s labels start i j = unless_two (field_at s labels j) (spread_row_at s labels (start + 8 * tri (stored_before s labels j)) i)
