-- For the proofs of the code alone: no public promise and no law cites this, and an auditor may skip it.
-- Bounds of what the code works out.
use Rattle.std.specs.Prelude.{ℕ, ◌+◌, ◌*◌}
use Rattle.num_limits.specs.Capacities.{day_after_last}
use Rattle.days_leap.specs.Leap.{common_length, second}

-- how many listed days there are
abbrev pub listed_most : ℕ
listed_most = 27

-- no day starts later: the start of the day after the last, all listed days before it
abbrev pub start_most : ℕ
start_most = day_after_last * common_length + listed_most * second
