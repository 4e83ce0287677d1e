-- `wheloruka::whl_date_of_day` meets its contract: the date, or the refusal.
use Rattle.call_numbers.specs.Given.{date_numbers}
use Rattle.wheloruka.specs.Numbers.{date_values}
use Rattle.wheloruka.proofs.Numbers.{as_told}
use Rattle.wheloruka.proofs.whl_date_of_day.Goals as goal

pub returns : goal.returns
unfolding date_values
returns c =
    let got = as_told date_numbers c.date_of_day.ensures _ (c.give_date.ensures.value, c.give_date.ensures.left) in record {
      value = got.0;
      left = got.1;
    }
