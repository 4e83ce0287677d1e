-- `wheloruka::whl_day_of_date` meets its contract: the number, or the refusal.
use Rattle.call_rooms.specs.Result.{one}
use Rattle.wheloruka.specs.Numbers.{day_values}
use Rattle.wheloruka.proofs.Numbers.{as_told}
use Rattle.wheloruka.proofs.whl_day_of_date.Goals as goal

pub returns : goal.returns
unfolding day_values
returns c =
    let got = as_told one c.day_of_date.ensures _ (c.give_told.ensures.value, c.give_told.ensures.left) in record {
      value = got.0;
      left = got.1;
    }
