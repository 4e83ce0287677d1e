-- `wheloruka::whl_index_of` meets its contract: the index, or the refusal.
use Rattle.call_rooms.specs.Result.{one}
use Rattle.wheloruka.specs.Numbers.{index_values}
use Rattle.wheloruka.proofs.Numbers.{as_told}
use Rattle.wheloruka.proofs.whl_index_of.Goals as goal

pub returns : goal.returns
unfolding index_values
returns c =
    let got = as_told one c.index_by.ensures _ (c.give_told.ensures.value, c.give_told.ensures.left) in record {
      value = got.0;
      left = got.1;
    }
