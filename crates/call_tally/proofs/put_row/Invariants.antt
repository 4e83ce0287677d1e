-- `call_tally::put_row` meets its contract. The loop's invariant: the bytes of what is left, laid at the place, make the whole.
use Prim.Native.Nat.{◌≤◌, ◌+◌, ◌*◌, ◌-◌}
use mathlib.Core.Path.{◌≡◌}
use lib.ListN.{length}
use Rattle.num_whole.specs.Lists.{rest}
use Rattle.byte_words.specs.Words.{lay, bytes_of}
use Rattle.byte_section.specs.Section.{encoded}
use Rattle.call_tally.proofs.put_row.Given as goal

abbrev pub invariant-loop-i : goal.invariant-loop-i
invariant-loop-i l =
    (l.i ≤ 10)
    × (length l.row.times ≡ 10)
    × (length l.out ≡ length l.initial.out)
    × (l.at ≡ l.start + 8 * l.i)
    × (lay l.initial.out l.start (encoded (bytes_of 8) l.row.times) ≡ lay l.out l.at (encoded (bytes_of 8) (rest l.row.times 10 l.i)))
