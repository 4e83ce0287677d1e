-- `call_numbers::give_cell` meets its contract: the cell, or the refusal.
use mathlib.Core.Path.{ap}
use Rattle.refusal.specs.Told.{told}
use Rattle.call_rooms.proofs.Rooms.{on_given, on_refused}
use Rattle.call_numbers.specs.Given.{cell_numbers}
use Rattle.call_numbers.proofs.give_cell.Goals as goal

pub returns-in-Ok : goal.returns-in-Ok
unfolding cell_numbers
returns-in-Ok c =
    let value = rw c.letter_number.ensures at c.give.ensures.value in
    let left = rw c.letter_number.ensures at c.give.ensures.left in
    let got = on_given cell_numbers _ _ _ (ap told c.in-Ok.is) (value, left) in record {
      value = got.0;
      left = got.1;
    }

pub returns-in-Err : goal.returns-in-Err
returns-in-Err c =
    let got = on_refused cell_numbers _ _ _ (ap told c.in-Err.is) c.number.ensures in record {
      value = got.0;
      left = got.1;
    }
