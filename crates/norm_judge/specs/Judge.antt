-- For the proofs of the code alone: no public promise and no law cites this, and an auditor may skip it.
-- The judging of a system in lent room in the parts that the code has: what it asks of the rooms' lengths, and what follows the counts.
use Rattle.std.specs.Prelude.{ℕ, ◌≤◌}
use Rattle.num_limits.specs.Capacities.{arcs_most, labels_most}
use Rattle.refusal.specs.First.{first}
use Rattle.num_packed.specs.Triangle.{tri}
use Rattle.norm_system.specs.System.{System}
use Rattle.norm_room.specs.Room.{heads_long, sums_tests, value_tests}

-- counts within their limits, and the heads' room long enough for them
pub record HeadsFit (a p heads : ℕ) : Type 0 where
  pub arcs : a ≤ arcs_most
  pub parameters : p ≤ labels_most
  pub heads_fit : heads_long a p ≤ heads

-- and the sums' rooms too
pub record Roomed (a p heads matrix rights : ℕ) : Type 0 where
  pub arcs : a ≤ arcs_most
  pub parameters : p ≤ labels_most
  pub heads_fit : heads_long a p ≤ heads
  pub matrix_fits : tri p ≤ matrix
  pub rights_fit : p ≤ rights

-- the numbers that the last tests give, and those from the fields on
unfoldable pub sums_number : ℕ → ℕ → ℕ → System → ℕ
sums_number p matrix rights x = first (sums_tests p matrix rights x)

unfoldable pub values_number : ℕ → ℕ → ℕ → System → ℕ
values_number p matrix rights x = first (value_tests p matrix rights x)
