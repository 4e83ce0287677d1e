-- `wheloruka::whl_normal_read` meets its contract: seven numbers, or the refusal.
use mathlib.Core.Path.{sym}
use Rattle.call_rooms.proofs.Rooms.{as_given, as_refused}
use Rattle.wheloruka.proofs.Files.{normal_good, normal_bad}
use Rattle.wheloruka.proofs.whl_normal_read.Goals as goal

pub returns-in-Err : goal.returns-in-Err
returns-in-Err c =
    let got = as_refused _ _ _ (normal_bad _ (sym c.in-Err.ensures)) c.number.ensures in record {
      value = got.0;
      left = got.1;
    }

pub returns-in-Ok : goal.returns-in-Ok
returns-in-Ok c =
    let got = as_given _ _ _ (normal_good _ _ _ (sym c.in-Ok.ensures) c.form_number.ensures) (c.give.ensures.value, c.give.ensures.left) in record {
      value = got.0;
      left = got.1;
    }
