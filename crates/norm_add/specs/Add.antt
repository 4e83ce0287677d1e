-- For the proofs of the code alone: no public promise and no law cites this, and an auditor may skip it.
-- What a file's sums, where they stand in its bytes, add to a target: t has the target's place of each of the file's labels.
use Rattle.std.specs.Prelude.{ℕ, suc, ◌+◌, ◌*◌, ◌^◌, ◌≤◌, ◌<◌, List, ℤ, pos, nat_abs, length, get_or}
use Rattle.std.specs.Int.{w64}
use Rattle.num_whole.specs.Tests.{less, pick}
use Rattle.num_whole.specs.Sums.{Within}
use Rattle.byte_words.specs.Words.{signed_word}
use Rattle.num_packed.specs.Triangle.{tri}
use Rattle.norm_labels.specs.Seats.{seat}
use Rattle.norm_add.specs.declared.Column.{Column}

-- the ith sum of those that stand one after the other from a place of the bytes on, 0 past them
unfoldable pub held_at : List ℕ → Column → ℕ → ℤ
held_at s c i = pick (less i c.rows) (signed_word w64 s (c.base + 8 * i)) (pos 0)

-- column j of a triangle of n columns that stands at a place, and no rows where it has no such column
unfoldable pub column_at : ℕ → ℕ → ℕ → Column
column_at start n j = pick (less j n) (record { base = start + 8 * tri j; rows = suc j }) (record { base = start; rows = 0 })

-- ---- what is added
-- at place k, of sums that stand one after the other
unfoldable pub on_place : List ℕ → Column → List ℕ → ℕ → ℤ
on_place s c t k = held_at s c (seat t k)

-- at row i and column j, of a triangle that stands at a place
unfoldable pub on_places : List ℕ → ℕ → List ℕ → ℕ → ℕ → ℤ
on_places s start t i j = on_place s (column_at start (length t) (seat t j)) t i

-- ---- when it may be added
-- q places are below j, and the others are not
pub record Passed (t : List ℕ) (j q : ℕ) : Type 0 where
  pub within : q ≤ length t
  pub before : (i : ℕ) → i < q → get_or t i 0 < j
  pub after : (i : ℕ) → q ≤ i → i < length t → j ≤ get_or t i 0

-- no sum of n that stand at a place is larger in size than a bound
abbrev pub SmallSums : List ℕ → ℕ → ℕ → ℕ → Type 0
SmallSums s place n bound = (i : ℕ) → i < n → nat_abs (signed_word w64 s (place + 8 * i)) ≤ bound

-- n sums that stand at a place, and a target that they can be added to: in size at most two bounds that add up within 64 bits
pub record Addable (s : List ℕ) (place n : ℕ) (target : List ℤ) : Type 0 where
  pub target_bound : ℕ
  pub sums_bound : ℕ
  pub target_within : Within target_bound target
  pub sums_within : SmallSums s place n sums_bound
  pub fits : target_bound + sums_bound < 2 ^ 63
