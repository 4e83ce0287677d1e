-- `wheloruka::whl_normal_write` meets its contract: the file with its length, or a refusal.
use mathlib.Core.Path.{sym}
use lib.Seq.{length-take-le}
use Rattle.norm_write.specs.Write.{write_normal, normal_left_in}
use Rattle.wheloruka.proofs.Writes.{gives, write_none}
use Rattle.wheloruka.proofs.whl_normal_write.Goals as goal

pub slice_bounds-write-end-2 : goal.slice_bounds-write-end-2
slice_bounds-write-end-2 c = sym (length-take-le _ _ c.room_for-room.ensures.1)

pub returns : goal.returns
returns c =
    let a = c.args in let got = gives (write_normal a.arcs a.parameters a.heads.now a.matrix.now a.rights.now) (normal_left_in a.arcs a.parameters a.heads.now a.matrix.now a.rights.now) _ _ (write_none _ _ _ _ _) _ c.room_for-room.ensures.0 _ c.write-w.ensures.answer (c.give_written.ensures.value, c.give_written.ensures.left) c.write-w.ensures.left in record {
      value = got.0;
      size = got.1.0;
      bytes = got.1.1;
    }
