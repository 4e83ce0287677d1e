-- Document 01, 'Refusal numbers', 20: "a lent buffer shorter than needed". The rooms of the sums: one element for each matrix sum, and one for
-- each right side.
use Rattle.std.specs.Prelude.{ℕ, Bool}
use Rattle.num_whole.specs.Tests.{up_to, both}
use Rattle.num_packed.specs.Triangle.{tri}

-- rooms of these lengths hold the sums of p parameters
unfoldable pub sums_roomy : ℕ → ℕ → ℕ → Bool
sums_roomy p matrix rights = both (up_to (tri p) matrix) (up_to p rights)
