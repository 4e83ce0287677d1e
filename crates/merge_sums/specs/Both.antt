-- For the proofs of the code alone: no public promise and no law cites this, and an auditor may skip it.
-- The sums of two files, where they stand in the files' bytes, at the places of united labels.
use Rattle.std.specs.Prelude.{List, ℕ, ◌+◌, ◌^◌, ◌<◌, ℤ, ◌+ℤ◌}
use Rattle.norm_add.specs.Add.{on_place, on_places, SmallSums}
use Rattle.norm_add.specs.declared.Column.{Column}

-- at row i and column j
unfoldable pub both_places : List ℕ → ℕ → List ℕ → List ℕ → ℕ → List ℕ → ℕ → ℕ → ℤ
both_places a start ta b begin tb i j = on_places a start ta i j +ℤ on_places b begin tb i j

-- right sides, at place i
unfoldable pub both_sides : List ℕ → Column → List ℕ → List ℕ → Column → List ℕ → ℕ → ℤ
both_sides a c ta b d tb i = on_place a c ta i +ℤ on_place b d tb i

-- sums that can be added: their bounds add up within 64 bits
pub record AddableBoth (a : List ℕ) (start n : ℕ) (b : List ℕ) (begin m : ℕ) : Type 0 where
  pub left_bound : ℕ
  pub right_bound : ℕ
  pub left_within : SmallSums a start n left_bound
  pub right_within : SmallSums b begin m right_bound
  pub fits : left_bound + right_bound < 2 ^ 63
