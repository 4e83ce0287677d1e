-- Document 01, 'Days': "A day number counts whole days from 1950 Jan 0.0, Gregorian: 1950 Jan 1 is 1, 2099 Dec 31 is 54,787; nothing
-- outside. Both directions are public." Outside is refusal 4, "a calendar field is out of its limits".
use Rattle.std.specs.Prelude.{ℕ, zero, suc, ◌+◌, ◌-◌, ◌%◌, Bool, not}
use Rattle.num_limits.specs.Capacities.{last_day}
use Rattle.num_whole.specs.Tests.{less, same, pick, both, either, between}
use Rattle.num_whole.specs.Answer.{Answered, given, refused}
use Rattle.days.specs.declared.Date.{Date}

-- ---- the Gregorian calendar
-- every fourth year is a leap year, but of the hundreds only every fourth
unfoldable pub leap : ℕ → Bool
leap year = both (same (year % 4) 0) (either (not (same (year % 100) 0)) (same (year % 400) 0))

-- February has 29 days in a leap year and else 28; April, June, September and November have 30; the others have 31
unfoldable pub month_length : ℕ → ℕ → ℕ
month_length year month =
    pick (same month 2) (pick (leap year) 29 28)
    (pick (either (same month 4) (either (same month 6) (either (same month 9) (same month 11)))) 30 31)

-- the days of the first n months of a year
unfoldable pub days_of_months : ℕ → ℕ → ℕ
days_of_months year zero = 0
days_of_months year (suc n) = days_of_months year n + month_length year (suc n)

-- the days of the n years from 1950 on
unfoldable pub days_of_years : ℕ → ℕ
days_of_years zero = 0
days_of_years (suc n) = days_of_years n + days_of_months (1950 + n) 12

-- a day of the years 1950 to 2099
unfoldable pub is_date : Date → Bool
is_date t =
    both (between 1950 t.year 2099)
    (both (between 1 t.month 12) (between 1 t.day (month_length t.year t.month)))

-- ---- from a date to its number
-- the days of the years before it, of the months before it, and of its month up to it
unfoldable pub day_number : Date → ℕ
day_number t = days_of_years (t.year - 1950) + days_of_months t.year (t.month - 1) + t.day

unfoldable pub day_of_date : Date → Answered ℕ
day_of_date t = pick (is_date t) (given (day_number t)) (refused 4)

-- ---- from a number to its date
abbrev pub date_of : ℕ → ℕ → ℕ → Date
date_of year month day = record { year = year; month = month; day = day }

-- the day after: in the month, else the first of the next month, else the first of the next year
unfoldable pub tomorrow : Date → Date
tomorrow t =
    pick (less t.day (month_length t.year t.month)) (date_of t.year t.month (t.day + 1))
    (pick (less t.month 12) (date_of t.year (t.month + 1) 1) (date_of (t.year + 1) 1 1))

-- the date n days after 1950 Jan 1
unfoldable pub date_after : ℕ → Date
date_after zero = date_of 1950 1 1
date_after (suc n) = tomorrow (date_after n)

unfoldable pub date_of_day : ℕ → Answered Date
date_of_day n = pick (between 1 n last_day) (given (date_after (n - 1))) (refused 4)
