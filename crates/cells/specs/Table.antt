-- For the proofs of the code alone: no public promise and no law cites this, and an auditor may skip it.
-- How an entry of the code's table stands for a cell: 1024 for the letter S, 32 for each degree, and the order.
use Rattle.std.specs.Prelude.{ℕ, ◌/◌, ◌%◌}
use Rattle.num_whole.specs.Tests.{less, pick}
use Rattle.cells.specs.declared.Letter.TheVariants.{C, S}
use Rattle.cells.specs.declared.Cell.{Cell}
use Rattle.cells.specs.Cells.{cell}

unfoldable pub decoded : ℕ → Cell
decoded entry = cell (pick (less entry 1024) C S) (entry / 32 % 32) (entry % 32)
