-- What the calls for days, cells, units and residuals put into lent room, in the order of the definitions they name.
use Rattle.std.specs.Prelude.{ℕ, List, ℤ, Float}
use Rattle.num_whole.specs.Answer.{Answered}
use Rattle.call_rooms.specs.Result.{told_values, one}
use Rattle.days.specs.Calendar.{date_of, day_of_date, date_of_day}
use Rattle.cells.specs.Cells.{cell_at}
use Rattle.unit_convert.specs.Units.{unit_of, double_of}
use Rattle.call_numbers.specs.Given.{date_numbers, cell_numbers, index_by, residual_as}

-- ---- days
unfoldable pub day_values : ℕ → ℕ → ℕ → Answered (List ℕ)
day_values year month day = told_values one (day_of_date (date_of year month day))

unfoldable pub date_values : ℕ → Answered (List ℕ)
date_values day = told_values date_numbers (date_of_day day)

-- ---- cells
unfoldable pub cell_values : ℕ → Answered (List ℕ)
cell_values index = told_values cell_numbers (cell_at index)

unfoldable pub index_values : ℕ → ℕ → ℕ → Answered (List ℕ)
index_values letter degree order = told_values one (index_by letter degree order)

-- ---- units
unfoldable pub unit_values : ℕ → Float → Answered (List ℤ)
unit_values kind x = told_values one (unit_of kind x)

unfoldable pub double_values : ℕ → ℤ → Answered (List Float)
double_values kind q = told_values one (double_of kind q)

-- ---- residuals
unfoldable pub residual_values : ℕ → Float → Float → Answered (List ℤ)
residual_values kind observed computed = told_values one (residual_as kind observed computed)
