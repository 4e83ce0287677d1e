-- For the proofs of the code alone: no public promise and no law cites this, and an auditor may skip it.
-- The sections of sums of a normal file in the parts that the code has: by their length, all in numbers.
use Rattle.std.specs.Prelude.{ℕ, ◌+◌, ◌*◌, ◌-◌, ◌≤◌, List, length}
use Rattle.num_whole.specs.Tests.{less, pick}
use Rattle.num_whole.specs.Answer.{Judged, good, bad}
use Rattle.norm_sections.specs.declared.Places.{Places}
use Rattle.byte_section.specs.Section.{and_then, count_at, closed}
use Rattle.num_packed.specs.Triangle.{tri}

-- ---- sections of n records of one size, with no limits and no order: the place after one
unfoldable pub plain_part : List ℕ → ℕ → ℕ → ℕ → Judged ℕ
plain_part s at n size =
    and_then (count_at s at n n) λ k.
    pick (less (length s - (at + 4)) (n * size)) (bad 1 (length s)) (good (at + 4 + n * size))

-- where the records of the last three sections begin

-- the last section, with what stands before it
unfoldable pub totals_part : List ℕ → ℕ → ℕ → ℕ → Judged Places
totals_part s at matrix rights =
    and_then (plain_part s at 1 16) λ end.
    closed s end (record { matrix = matrix; rights = rights; totals = at + 4 })

unfoldable pub sums_part : List ℕ → ℕ → ℕ → Judged Places
sums_part s p at =
    and_then (plain_part s at (tri p) 8) λ sides.
    and_then (plain_part s sides p 8) λ last.
    totals_part s last (at + 4) (sides + 4)

-- the sums of p parameters stand within so many bytes
pub record Room (long p : ℕ) (x : Places) : Type 0 where
  pub matrix : x.matrix + 8 * tri p ≤ long
  pub rights : x.rights + 8 * p ≤ long
  pub totals : x.totals + 16 ≤ long
