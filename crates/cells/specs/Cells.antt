-- Document 01, 'Geopotential cells': "From source document 000, a 30 by 33 array: C(n,m) at row n, column m+1; S(n,m) at row 31−n,
-- column 33−m; n from 1 to 30, m from 0 to n. Index = 33·(row−1) + column−1. Column 33 holds S(n,0), never a parameter."
-- Outside is refusal 4, "a cell field is out of its limits".
use Rattle.std.specs.Prelude.{ℕ, ◌+◌, ◌-◌, ◌*◌, ◌/◌, ◌%◌, Bool, not}
use Rattle.num_whole.specs.Tests.{less, up_to, same, pick, both, between}
use Rattle.num_whole.specs.Answer.{Answered, given, refused}
use Rattle.cells.specs.declared.Letter.{Letter}
use Rattle.cells.specs.declared.Letter.TheVariants.{C, S}
use Rattle.cells.specs.declared.Cell.{Cell}

abbrev pub cell : Letter → ℕ → ℕ → Cell
cell letter degree order = record { letter = letter; degree = degree; order = order }

-- n from 1 to 30, m from 0 to n
unfoldable pub is_cell : Cell → Bool
is_cell c = both (between 1 c.degree 30) (up_to c.order c.degree)

-- ---- the two index rules
abbrev pub cell_row : Letter → ℕ → ℕ
cell_row C n = n
cell_row S n = 31 - n

abbrev pub cell_column : Letter → ℕ → ℕ
cell_column C m = m + 1
cell_column S m = 33 - m

unfoldable pub cell_index : Cell → ℕ
cell_index c = 33 * (cell_row c.letter c.degree - 1) + (cell_column c.letter c.order - 1)

unfoldable pub index_of : Cell → Answered ℕ
index_of c = pick (is_cell c) (given (cell_index c)) (refused 4)

-- ---- the rules read backwards: C(n,m) fills row n up to column n+1, and S has the rest
unfoldable pub owner_of : ℕ → ℕ → Cell
owner_of row column = pick (up_to column (row + 1)) (cell C row (column - 1)) (cell S (31 - row) (33 - column))

unfoldable pub cell_of : ℕ → Cell
cell_of index = owner_of (index / 33 + 1) (index % 33 + 1)

unfoldable pub cell_at : ℕ → Answered Cell
cell_at index = pick (less index 990) (given (cell_of index)) (refused 4)

-- a cell that may be a parameter: any but those of column 33
unfoldable pub is_parameter : ℕ → Bool
is_parameter index = both (less index 990) (not (same (index % 33 + 1) 33))
