-- `call_numbers::give_date` meets its contract: the date, or the refusal.
use mathlib.Core.Path.{ap}
use Rattle.refusal.specs.Told.{told}
use Rattle.call_rooms.proofs.Rooms.{on_given, on_refused}
use Rattle.call_numbers.specs.Given.{date_numbers}
use Rattle.call_numbers.proofs.give_date.Goals as goal

pub returns-in-Ok : goal.returns-in-Ok
unfolding date_numbers
returns-in-Ok c =
    let got = on_given date_numbers _ _ _ (ap told c.in-Ok.is) (c.give.ensures.value, c.give.ensures.left) in record {
      value = got.0;
      left = got.1;
    }

pub returns-in-Err : goal.returns-in-Err
returns-in-Err c =
    let got = on_refused date_numbers _ _ _ (ap told c.in-Err.is) c.number.ensures in record {
      value = got.0;
      left = got.1;
    }
