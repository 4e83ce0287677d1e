-- `wheloruka::whl_write` meets its contract: the file with its length, or a refusal.
use mathlib.Core.Path.{sym}
use lib.Seq.{length-take-le}
use Rattle.call_files.specs.Arcs.{arc_file, arc_left}
use Rattle.call_files.proofs.Arcs.{arc_none}
use Rattle.wheloruka.proofs.Writes.{gives}
use Rattle.wheloruka.proofs.whl_write.Goals as goal

pub slice_bounds-write_arc-end-2 : goal.slice_bounds-write_arc-end-2
slice_bounds-write_arc-end-2 c = sym (length-take-le _ _ c.room_for-room.ensures.1)

pub returns : goal.returns
returns c =
    let a = c.args in let got = gives (arc_file a.heading.now a.run.now) (arc_left a.heading.now a.run.now) _ _ (arc_none _ _) _ c.room_for-room.ensures.0 _ c.write_arc-w.ensures.result_value (c.give_written.ensures.value, c.give_written.ensures.left) c.write_arc-w.ensures.left in record {
      value = got.0;
      size = got.1.0;
      bytes = got.1.1;
    }
