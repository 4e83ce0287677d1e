-- `call_rooms::room_for` meets its contract.
use native.Mathlib.Omega.{arith}
use mathlib.Core.Path.{refl}
use Rattle.num_whole.proofs.Cases.{yes, no, is_less, not_less}
use Rattle.call_rooms.specs.Result.{room_for}
use Rattle.call_rooms.proofs.room_for.Goals as goal

pub returns-then-size-lt1 : goal.returns-then-size-lt1
unfolding room_for
returns-then-size-lt1 c = (yes _ _ _ (is_less _ _ (omega arith)) refl, omega arith)

pub returns-else-size-lt1 : goal.returns-else-size-lt1
unfolding room_for
returns-else-size-lt1 c = (no _ _ _ (not_less _ _ (omega arith)) refl, omega arith)
