-- The values that calls for days and cells put into lent room, in the order of the definitions they name; the residual by a type's number.
use Rattle.std.specs.Prelude.{ℕ, List, [], ◌∷◌, ℤ, Float}
use Rattle.num_whole.specs.Tests.{same, pick}
use Rattle.num_whole.specs.Answer.{Answered, given, refused}
use Rattle.days.specs.declared.Date.{Date}
use Rattle.cells.specs.Cells.{cell, index_of}
use Rattle.cells.specs.declared.Letter.{Letter}
use Rattle.cells.specs.declared.Letter.TheVariants.{C, S}
use Rattle.cells.specs.declared.Cell.{Cell}
use Rattle.unit_measure.specs.Measures.{measured_as}
use Rattle.unit_measure.specs.declared.Reading.{Reading}
use Rattle.unit_residual.specs.Residuals.{residual_of}

-- year, month, day
unfoldable pub date_numbers : Date → List ℕ
date_numbers t = t.year ∷ t.month ∷ t.day ∷ []

-- ---- cells: a letter is its ASCII number
unfoldable pub letter_number : Letter → ℕ
letter_number C = 67
letter_number S = 83

-- letter, degree, order
unfoldable pub cell_numbers : Cell → List ℕ
cell_numbers c = letter_number c.letter ∷ c.degree ∷ c.order ∷ []

-- a letter that is none is 4, as a degree or an order out of its limits
unfoldable pub index_by : ℕ → ℕ → ℕ → Answered ℕ
index_by letter degree order =
    pick (same letter 67) (index_of (cell C degree order))
    (pick (same letter 83) (index_of (cell S degree order)) (refused 4))

-- ---- residuals: 11 for a type that is refused, then the residual of the reading, or 15 or 16
unfoldable pub residual_at : Answered Reading → Answered ℤ
residual_at (given m) = residual_of m
residual_at (refused k) = refused k

unfoldable pub residual_as : ℕ → Float → Float → Answered ℤ
residual_as kind observed computed = residual_at (measured_as kind observed computed)
