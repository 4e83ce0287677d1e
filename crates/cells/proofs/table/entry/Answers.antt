-- `cells::table::entry` meets its contract: the test of the table's agreement with the index rules passes, which the checker computes.
use mathlib.Core.Bool.{true}
use mathlib.Core.Path.{◌≡◌, refl}
use Rattle.num_whole.specs.Tests.{less, up_to, same, pick, both, between}
use Rattle.num_whole.proofs.Tables.{every}
use Rattle.cells.specs.Cells.{is_cell, cell_index}
use Rattle.cells.specs.Table.{decoded}
use Rattle.cells.specs.declared.table.TheConstants.{CELLS}
use Rattle.cells.proofs.Agreement.{right, agrees}
use Rattle.cells.proofs.table.entry.Goals as goal

passes : every right 0 CELLS ≡ true
unfolding every right decoded is_cell cell_index less up_to same pick both between
passes = refl

pub returns : goal.returns
returns c = agrees CELLS passes c.args.index c.requires
