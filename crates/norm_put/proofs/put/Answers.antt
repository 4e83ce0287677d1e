-- `norm_put::put` meets its contract: the arcs, the labels and the sums, each section where the last one ends.
use lib.Seq.{length-take-le}
use native.Mathlib.Omega.{arith}
use Rattle.byte_words.proofs.Stands.{length_stands}
use Rattle.norm_room.specs.Room.{label_in_heads, system_in_rooms}
use Rattle.norm_put.proofs.Laid.{file_laid}
use Rattle.norm_put.proofs.put.Goals as goal

-- Each `let` of a place leads from a later one to an earlier one; they stand here since `rw` takes no view.
pub returns : goal.returns
unfolding system_in_rooms
returns c =
    let a = c.args in
    rw (c.put_tail.ensures, c.put_labels.ensures, c.put_arcs.ensures)
    (file_laid _ _ (system_in_rooms a.arcs a.parameters a.heads.now a.matrix.now a.rights.now) (length-take-le a.arcs a.heads.now (omega arith)) (length_stands (label_in_heads a.heads.now) 5 a.parameters a.arcs) _)
