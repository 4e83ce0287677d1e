-- Document 01, 'Taking a record': the residual, observed minus computed in units.
use Rattle.std.specs.Prelude.{Bool, ℤ, Float}
use Rattle.std.specs.Float.Ieee.Scale.{finite}
use Rattle.num_whole.specs.Tests.{pick, both}
use Rattle.num_whole.specs.Answer.{Answered, given, refused}
use Rattle.unit_nearest.specs.Doubles.{nearest_unit, fits_in}
use Rattle.unit_types.specs.Types.{row_of_type}
use Rattle.unit_types.specs.declared.TypeRow.{TypeRow}
use Rattle.unit_measure.specs.declared.Reading.{Reading}
use Rattle.unit_turn.specs.Turning.{apart_by}

-- a finite double's q is within its type's limits
unfoldable pub fits_row : TypeRow → Float → Bool
fits_row r x = fits_in r.low r.high (nearest_unit r.k x)

-- "Residual r = observed minus computed in units": 15 where either is not finite, 16 where either's q is out of its limits
unfoldable pub residual_by : TypeRow → Float → Float → Answered ℤ
residual_by r o c =
    pick (both (finite o) (finite c))
    (pick (both (fits_row r o) (fits_row r c)) (given (apart_by r (nearest_unit r.k o) (nearest_unit r.k c))) (refused 16))
    (refused 15)

unfoldable pub residual_of : Reading → Answered ℤ
residual_of m = residual_by (row_of_type m.kind) m.observed m.computed
