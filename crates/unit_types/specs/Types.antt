-- Document 01, 'Units': the table of the ten types of measurement. Code, promises and laws all read it here.
use Rattle.std.specs.Prelude.{ℕ, ◌-◌, ◌^◌, Bool, true, false, List, [], ◌∷◌, ℤ, pos, neg_ℤ, get_or}
use Rattle.num_whole.specs.Tests.{pick, between}
use Rattle.num_whole.specs.Answer.{Answered, given, refused}
use Rattle.unit_types.specs.declared.TypeRow.{TypeRow}

-- "T = 1,686,629,713 is one turn"
abbrev pub turn : ℕ
turn = 1686629713

-- a row: k, the least and the greatest q, step, F, and whether q counts around one turn, so that T stands for 0
abbrev pub row : ℕ → ℤ → ℤ → ℕ → ℕ → Bool → TypeRow
row k low high step factor turns = record { k = k; low = low; high = high; step = step; factor = factor; turns = turns }

abbrev pub range : TypeRow
range = row 10 (pos 0) (pos (2 ^ 40)) 64 4 false

abbrev pub range_rate : TypeRow
range_rate = row 16 (neg_ℤ (pos (2 ^ 31))) (pos (2 ^ 31)) 64 4 false

abbrev pub cosine : TypeRow
cosine = row 28 (neg_ℤ (pos (2 ^ 28))) (pos (2 ^ 28)) 256 1 false

abbrev pub angle : TypeRow
angle = row 28 (neg_ℤ (pos 421657428)) (pos 421657428) 256 1 false

abbrev pub circle : TypeRow
circle = row 28 (pos 0) (pos turn) 256 1 true

abbrev pub elevation : TypeRow
elevation = row 28 (pos 0) (pos 421657428) 256 1 false

-- range; range rate; direction cosines l, m; X, Y angle; azimuth; elevation; right ascension; declination
abbrev pub rows : List TypeRow
rows = range ∷ range_rate ∷ cosine ∷ cosine ∷ angle ∷ angle ∷ circle ∷ elevation ∷ circle ∷ angle ∷ []

unfoldable pub is_type : ℕ → Bool
is_type t = between 1 t 10

unfoldable pub row_of_type : ℕ → TypeRow
row_of_type t = get_or rows (t - 1) range

-- "type not 1 to 10": 11
unfoldable pub row_at : ℕ → Answered TypeRow
row_at t = pick (is_type t) (given (row_of_type t)) (refused 11)
