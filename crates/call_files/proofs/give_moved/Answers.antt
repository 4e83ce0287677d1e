-- `call_files::give_moved` meets its contract: the length in its room, or the refusal.
use mathlib.Core.Path.{ap}
use Rattle.refusal.specs.Told.{told_placed}
use Rattle.call_rooms.specs.Result.{one}
use Rattle.call_rooms.proofs.Rooms.{on_given, on_refused}
use Rattle.call_files.specs.Writing.{move_call_number}
use Rattle.call_files.proofs.give_moved.Goals as goal

pub returns-in-Ok : goal.returns-in-Ok
unfolding one move_call_number
returns-in-Ok c =
    let got = on_given one _ _ _ (ap (λ a. move_call_number (told_placed a)) c.in-Ok.is) (c.give.ensures.value, c.give.ensures.left) in record {
      value = got.0;
      left = got.1;
    }

pub returns-in-Err : goal.returns-in-Err
unfolding move_call_number
returns-in-Err c =
    let got = on_refused one _ _ _ (ap (λ a. move_call_number (told_placed a)) c.in-Err.is) c.number.ensures in record {
      value = got.0;
      left = got.1;
    }
