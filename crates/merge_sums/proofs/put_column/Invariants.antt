-- `merge_sums::put_column` meets its contract. The loop's invariant: the bytes of the sums left, laid at the place, make the whole.
use mathlib.Core.Path.{◌≡◌}
use Prim.Native.Nat.{◌+◌, ◌*◌}
use lib.ListN.{length, drop}
use Rattle.byte_words.specs.Words.{lay}
use Rattle.merge_sums.proofs.Writing.{bytes_in}
use Rattle.merge_sums.proofs.put_column.Given as goal

abbrev pub invariant-loop-i : goal.invariant-loop-i
invariant-loop-i l =
    (length l.out ≡ length l.initial.out) × (lay l.initial.out l.at (bytes_in l.col) ≡ lay l.out (l.at + 8 * l.i) (bytes_in (drop l.i l.col)))
