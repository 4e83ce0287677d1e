-- `call_tally::put_marks` meets its contract. The loop's invariant: the bytes of what is left, laid at the place, make the whole.
use Prim.Native.Nat.{◌≤◌, ◌+◌, ◌*◌, ◌-◌}
use mathlib.Core.Path.{◌≡◌}
use lib.ListN.{length}
use Rattle.num_whole.specs.Lists.{rest}
use Rattle.byte_words.specs.Words.{lay, bytes_of}
use Rattle.byte_section.specs.Section.{encoded}
use Rattle.call_tally.proofs.put_marks.Given as goal

abbrev pub invariant-loop-i : goal.invariant-loop-i
invariant-loop-i l =
    (l.i ≤ 50)
    × (length l.marks ≡ 50)
    × (length l.out ≡ length l.initial.out)
    × (l.at ≡ 1352 + 2 * l.i)
    × (lay l.initial.out 1352 (encoded (bytes_of 2) l.marks) ≡ lay l.out l.at (encoded (bytes_of 2) (rest l.marks 50 l.i)))
