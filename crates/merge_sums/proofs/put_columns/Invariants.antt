-- `merge_sums::put_columns` meets its contract. The loop's invariant: the bytes of the columns left, laid at the place, make the whole.
use mathlib.Core.Path.{◌≡◌}
use Prim.Native.Nat.{◌≤◌, ◌+◌, ◌-◌, ◌*◌}
use lib.ListN.{length}
use Rattle.byte_words.specs.Words.{lay}
use Rattle.num_packed.specs.Triangle.{tri}
use Rattle.norm_labels.specs.Table.{columns_of}
use Rattle.merge_sums.proofs.Writing.{bytes_in}
use Rattle.norm_add.specs.Add.{Passed}
use Rattle.merge_sums.specs.Both.{both_places}
use Rattle.merge_sums.proofs.put_columns.Given as goal

abbrev pub invariant-loop-j : goal.invariant-loop-j
invariant-loop-j l =
    (l.j ≤ l.count)
    × (l.k ≡ l.at + 8 * tri l.j)
    × (length l.out ≡ length l.initial.out)
    × (length l.room ≡ length l.initial.room)
    × Passed l.ta l.j l.d.left
    × Passed l.tb l.j l.d.right
    × (lay l.initial.out l.at (bytes_in (columns_of (both_places l.a l.start l.ta l.b l.begin l.tb) 0 l.count)) ≡ lay l.out l.k (bytes_in (columns_of (both_places l.a l.start l.ta l.b l.begin l.tb) l.j (l.count - l.j))))
