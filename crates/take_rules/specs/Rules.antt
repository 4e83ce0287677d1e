-- Documents 01, 'Taking a record', and 02, #101 and #103: the weight, the clock, the corrected time, the window and the edit test, one definition each.
use Rattle.std.specs.Prelude.{ℕ, ◌+◌, ◌*◌, ◌/◌, ◌%◌, Bool, ◌&&◌, ℤ, pos, ◌+ℤ◌, nat_abs}
use Rattle.std.specs.Int.Signed.{le_z, lt_z}
use Rattle.num_limits.specs.Capacities.{sigma_most, weight_top, last_day}
use Rattle.num_whole.specs.Tests.{less, up_to, pick, both, between}
use Rattle.days_leap.specs.Leap.{last_ms, day_start}

-- "s not 1 to 256": 12
unfoldable pub sigma_ok : ℕ → Bool
sigma_ok s = between 1 s sigma_most

-- a/b rounded to nearest: the quotient, and one more where what is left of a is above half of b
abbrev pub nearest_quotient : ℕ → ℕ → ℕ
nearest_quotient a b = pick (less b (2 * (a % b))) (a / b + 1) (a / b)

-- 02, #101: "The weight becomes 65,536/s² rounded to nearest; no tie can occur, and 1 to 65,536 stays the span."
unfoldable pub weight_of : ℕ → ℕ
weight_of s = nearest_quotient weight_top (s * s)

-- "day not 1 to 54,787", or, 02, #103: "13 takes the new limit on listed days only": ms not 0 to the last of its day: 13
unfoldable pub clock_ok : ℕ → ℕ → Bool
clock_ok day ms = both (between 1 day last_day) (up_to ms (last_ms day))

-- "Corrected time t = day·86,400,000 + ms + the station's correction"; 02, #103: "Corrected times and both ends of the window gain 1,000 for
-- each listed day before the day in question [..]; the clock correction is added after that."
unfoldable pub time_of : ℕ → ℕ → ℤ → ℤ
time_of day ms correction = pos (day_start day + ms) +ℤ correction

-- "the window runs from the first day's start up to, not including, the end of the last", which is the start of "the day after its last":
-- 14 outside
unfoldable pub in_window : ℕ → ℕ → ℤ → Bool
in_window first days t = le_z (pos (day_start first)) t && lt_z t (pos (day_start (first + days)))

-- "It passes the edit where 10·|r| ≤ K·s·step": 18 otherwise
unfoldable pub passes_edit : ℕ → ℕ → ℕ → ℤ → Bool
passes_edit level s step r = up_to (10 * nat_abs r) (level * s * step)
