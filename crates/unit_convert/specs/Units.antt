-- Document 01, 'Units': doubles to units by their type, and units to doubles.
use Rattle.std.specs.Prelude.{ℕ, ℤ, Float}
use Rattle.num_whole.specs.Tests.{pick}
use Rattle.num_whole.specs.Answer.{Answered, given, refused}
use Rattle.unit_nearest.specs.Doubles.{fits_in, unit_within, quotient}
use Rattle.unit_types.specs.Types.{is_type, row_of_type}
use Rattle.unit_types.specs.declared.TypeRow.{TypeRow}
use Rattle.unit_turn.specs.Turning.{on_circle, top_of}

-- ---- from a double to a unit
-- T becomes 0, and a refusal stays
unfoldable pub turned : TypeRow → Answered ℤ → Answered ℤ
turned r (given q) = given (on_circle r q)
turned r (refused n) = refused n

-- "Units: 11, 15, 16"
unfoldable pub unit_of : ℕ → Float → Answered ℤ
unit_of t x =
    pick (is_type t) (turned (row_of_type t) (unit_within (row_of_type t).k (row_of_type t).low (row_of_type t).high x)) (refused 11)

-- ---- from a unit to a double
-- "A unit handed in to become a double is held to the same limits, below T for types 7 and 9; else 16."
unfoldable pub double_of : ℕ → ℤ → Answered Float
double_of t q =
    pick (is_type t)
    (pick (fits_in (row_of_type t).low (top_of (row_of_type t)) q) (given (quotient (row_of_type t).k q)) (refused 16))
    (refused 11)
