-- `days::date_in_year` meets its contract. The loop's invariant: the days of the months before and the days left in this month add up to the
-- number. The measure is the days left.
use Prim.Native.Nat.{◌+◌, ◌-◌, ◌≤◌}
use mathlib.Core.Path.{◌≡◌}
use Rattle.days.specs.Calendar.{month_length, days_of_months}
use Rattle.days.proofs.date_in_year.Given as goal

abbrev pub invariant-loop-length : goal.invariant-loop-length
invariant-loop-length l = (1 ≤ l.month) × (l.month ≤ 12) × (1 ≤ l.day) × (l.length ≡ month_length l.year l.month) × (days_of_months l.year (l.month - 1) + l.day ≡ l.number)

abbrev pub decreases-loop-length : goal.decreases-loop-length
decreases-loop-length l = l.day
