-- `wheloruka::whl_cell_at` meets its contract: the cell, or the refusal.
use Rattle.call_numbers.specs.Given.{cell_numbers}
use Rattle.wheloruka.specs.Numbers.{cell_values}
use Rattle.wheloruka.proofs.Numbers.{as_told}
use Rattle.wheloruka.proofs.whl_cell_at.Goals as goal

pub returns : goal.returns
unfolding cell_values
returns c =
    let got = as_told cell_numbers c.cell_at.ensures _ (c.give_cell.ensures.value, c.give_cell.ensures.left) in record {
      value = got.0;
      left = got.1;
    }
