-- `wheloruka::whl_merge` meets its contract: the merged file with its length, a file's refusal, or another.
use mathlib.Core.Path.{sym, ap}
use lib.Seq.{length-take-le}
use Rattle.merge.specs.Files.{merge_answer, merge_left}
use Rattle.call_files.specs.Writing.{merge_call_number}
use Rattle.wheloruka.proofs.Writes.{gives, merge_none}
use Rattle.wheloruka.proofs.whl_merge.Goals as goal

pub slice_bounds-merge-end-2 : goal.slice_bounds-merge-end-2
slice_bounds-merge-end-2 c = sym (length-take-le _ _ c.room_for-room.ensures.1)

pub returns : goal.returns
returns c =
    let a = c.args in let got = gives (λ k. merge_call_number (merge_answer a.first.now a.second.now k)) (merge_left a.first.now a.second.now) _ _ (merge_none _ _) _ c.room_for-room.ensures.0 _ (ap merge_call_number c.merge-w.ensures.0) (c.give_merged.ensures.value, c.give_merged.ensures.left) c.merge-w.ensures.1 in record {
      value = got.0;
      size = got.1.0;
      bytes = got.1.1;
    }
