-- `call_part::give_parted` meets its contract: everything put back.
use Rattle.call_part.proofs.give_parted.Goals as goal

pub returns : goal.returns
returns c =
    record {
      value = c.give_told.ensures.value;
      position = c.put_back.ensures;
      tally = c.put_tally_back.ensures;
      left = c.give_told.ensures.left;
    }
