-- `wheloruka::whl_normal_small` meets its contract: the moved file with its length, or the refusal.
use mathlib.Core.Path.{sym, ap}
use lib.Seq.{length-take-le}
use mathlib.Core.Bool.{true}
use Rattle.norm_move.specs.Move.{move_answer, move_left}
use Rattle.call_files.specs.Writing.{move_call_number}
use Rattle.wheloruka.proofs.Writes.{gives, move_none}
use Rattle.wheloruka.proofs.whl_normal_small.Goals as goal

pub slice_bounds-small-end-2 : goal.slice_bounds-small-end-2
slice_bounds-small-end-2 c = sym (length-take-le _ _ c.room_for-room.ensures.1)

pub returns : goal.returns
returns c =
    let a = c.args in let got = gives (λ k. move_call_number (move_answer true a.file.now k)) (move_left true a.file.now) _ _ (move_none true _) _ c.room_for-room.ensures.0 _ (ap move_call_number c.small-w.ensures.result_value) (c.give_moved.ensures.value, c.give_moved.ensures.left) c.small-w.ensures.out_after in record {
      value = got.0;
      size = got.1.0;
      bytes = got.1.1;
    }
