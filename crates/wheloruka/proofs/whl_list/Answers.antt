-- `wheloruka::whl_list` meets its contract: the listing with its length, or too little room.
use mathlib.Core.Path.{sym}
use lib.Seq.{length-take-le}
use Rattle.list.specs.Listing.{list_answer, list_left}
use Rattle.wheloruka.proofs.Writes.{gives, list_none}
use Rattle.wheloruka.proofs.whl_list.Goals as goal

pub slice_bounds-list-end-2 : goal.slice_bounds-list-end-2
slice_bounds-list-end-2 c = sym (length-take-le _ _ c.room_for-room.ensures.1)

pub returns : goal.returns
returns c =
    let a = c.args in let got = gives (list_answer a.file.now) (list_left a.file.now) _ _ (list_none _) _ c.room_for-room.ensures.0 _ c.list-w.ensures.answer (c.give_written.ensures.value, c.give_written.ensures.left) c.list-w.ensures.left in record {
      value = got.0;
      size = got.1.0;
      bytes = got.1.1;
    }
