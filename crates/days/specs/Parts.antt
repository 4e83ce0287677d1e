-- For the proofs of the code alone: no public promise and no law cites this, and an auditor may skip it.
-- What the private functions promise each other.
use Rattle.std.specs.Prelude.{ℕ, ◌+◌, ◌-◌, ◌≤◌, ◌<◌}
use Rattle.days.specs.Calendar.{days_of_months, days_of_years}

-- a day number lies in a year of 1950 to 2099
pub record InYear (number year : ℕ) : Type 0 where
  pub first : 1950 ≤ year
  pub last : year ≤ 2099
  pub after : days_of_years (year - 1950) < number
  pub within : number ≤ days_of_years (year - 1950) + days_of_months year 12
