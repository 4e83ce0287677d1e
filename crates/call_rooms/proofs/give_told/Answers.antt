-- `call_rooms::give_told` meets its contract.
use Rattle.std.proofs.Common.{ap}
use Rattle.refusal.specs.Told.{told}
use Rattle.call_rooms.specs.Result.{one}
use Rattle.call_rooms.proofs.Rooms.{on_given, on_refused}
use Rattle.call_rooms.proofs.give_told.Goals as goal

pub returns-in-Ok : goal.returns-in-Ok
unfolding one
returns-in-Ok g c =
    let got = on_given one _ _ _ (ap told c.in-Ok.is) (c.give.ensures.value, c.give.ensures.left) in record { value = got.0; left = got.1 }

pub returns-in-Err : goal.returns-in-Err
returns-in-Err g c =
    let got = on_refused one _ _ _ (ap told c.in-Err.is) c.number.ensures in record { value = got.0; left = got.1 }
