-- `wheloruka::whl_unit_of` meets its contract: the unit, or the refusal.
use Rattle.call_rooms.specs.Result.{one}
use Rattle.wheloruka.specs.Numbers.{unit_values}
use Rattle.wheloruka.proofs.Numbers.{as_told}
use Rattle.wheloruka.proofs.whl_unit_of.Goals as goal

pub returns : goal.returns
unfolding unit_values
returns c =
    let got = as_told one c.unit_of.ensures _ (c.give_told.ensures.value, c.give_told.ensures.left) in record {
      value = got.0;
      left = got.1;
    }
