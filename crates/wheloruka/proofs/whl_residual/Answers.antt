-- `wheloruka::whl_residual` meets its contract: the residual, or the refusal.
use Rattle.call_rooms.specs.Result.{one}
use Rattle.wheloruka.specs.Numbers.{residual_values}
use Rattle.wheloruka.proofs.Numbers.{as_told}
use Rattle.wheloruka.proofs.whl_residual.Goals as goal

pub returns : goal.returns
unfolding residual_values
returns c =
    let got = as_told one c.residual_as.ensures _ (c.give_told.ensures.value, c.give_told.ensures.left) in record {
      value = got.0;
      left = got.1;
    }
