-- Document 02, #103: "UTC days are not all alike." The days that end in a leap second, and of each day its length, its last millisecond and
-- its start.
use Rattle.std.specs.Prelude.{ℕ, ◌+◌, ◌-◌, ◌*◌, Bool, false, List, [], ◌∷◌}
use Rattle.num_whole.specs.Tests.{less, same, pick, either}
use Rattle.days.specs.declared.Date.{Date}
use Rattle.days.specs.Calendar.{date_of, day_number}

-- ---- the days
abbrev june30 : ℕ → Date
june30 year = date_of year 6 30

abbrev december31 : ℕ → Date
december31 year = date_of year 12 31

-- "each day that ends in a leap second by the IERS list (27 of them, 1972 Jun 30 to 2016 Dec 31)"
unfoldable pub listed_dates : List Date
listed_dates =
    june30 1972 ∷ december31 1972 ∷ december31 1973 ∷ december31 1974 ∷ december31 1975 ∷ december31 1976 ∷
    december31 1977 ∷ december31 1978 ∷ december31 1979 ∷ june30 1981 ∷ june30 1982 ∷ june30 1983 ∷
    june30 1985 ∷ december31 1987 ∷ december31 1989 ∷ december31 1990 ∷ june30 1992 ∷ june30 1993 ∷
    june30 1994 ∷ december31 1995 ∷ june30 1997 ∷ december31 1998 ∷ december31 2005 ∷ december31 2008 ∷
    june30 2012 ∷ june30 2015 ∷ december31 2016 ∷ []

unfoldable pub numbers_of_dates : List Date → List ℕ
numbers_of_dates [] = []
numbers_of_dates (t ∷ l) = day_number t ∷ numbers_of_dates l

-- their numbers, by the calendar
unfoldable pub listed_days : List ℕ
listed_days = numbers_of_dates listed_dates

-- whether a day stands in a list of days
unfoldable pub stands_in : ℕ → List ℕ → Bool
stands_in d [] = false
stands_in d (x ∷ l) = either (same x d) (stands_in d l)

-- how many days of a list lie strictly before a day: the day itself does not count for its own start
unfoldable pub days_before : ℕ → List ℕ → ℕ
days_before d [] = 0
days_before d (x ∷ l) = pick (less x d) 1 0 + days_before d l

unfoldable pub is_listed : ℕ → Bool
is_listed d = stands_in d listed_days

unfoldable pub listed_before : ℕ → ℕ
listed_before d = days_before d listed_days

-- ---- the time of a day
-- 01: "Each day has 86,400,000 ms.", and a second has 1,000
abbrev pub common_length : ℕ
common_length = 86400000

abbrev pub second : ℕ
second = 1000

-- 02: on a listed day "ms runs to 86,400,999": one second more
unfoldable pub day_length : ℕ → ℕ
day_length d = common_length + pick (is_listed d) second 0

-- the last millisecond of a day, the first being 0
unfoldable pub last_ms : ℕ → ℕ
last_ms d = day_length d - 1

-- 02: "gain 1,000 for each listed day before the day in question"
unfoldable pub day_start : ℕ → ℕ
day_start d = d * common_length + second * listed_before d
