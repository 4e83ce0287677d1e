-- `call_files::give_written` meets its contract: the length in its room, or the refusal.
use mathlib.Core.Path.{ap}
use Rattle.refusal.specs.Told.{told}
use Rattle.call_rooms.specs.Result.{one}
use Rattle.call_rooms.proofs.Rooms.{on_given, on_refused}
use Rattle.call_files.proofs.give_written.Goals as goal

pub returns-in-Ok : goal.returns-in-Ok
unfolding one
returns-in-Ok c =
    let got = on_given one _ _ _ (ap told c.in-Ok.is) (c.give.ensures.value, c.give.ensures.left) in record {
      value = got.0;
      left = got.1;
    }

pub returns-in-Err : goal.returns-in-Err
returns-in-Err c =
    let got = on_refused one _ _ _ (ap told c.in-Err.is) c.number.ensures in record {
      value = got.0;
      left = got.1;
    }
