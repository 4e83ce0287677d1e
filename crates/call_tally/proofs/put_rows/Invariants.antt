-- `call_tally::put_rows` meets its contract. The loop's invariant: the bytes of what is left, laid at the place, make the whole.
use Prim.Native.Nat.{◌≤◌, ◌+◌, ◌*◌, ◌-◌}
use mathlib.Core.Path.{◌≡◌}
use lib.ListN.{length}
use Rattle.num_whole.specs.Lists.{rest}
use Rattle.byte_words.specs.Words.{lay}
use Rattle.byte_section.specs.Section.{encoded}
use Rattle.call_tally.specs.Tally.{row_bytes}
use Rattle.call_tally.proofs.put_rows.Given as goal

abbrev pub invariant-loop-i : goal.invariant-loop-i
invariant-loop-i l =
    (l.i ≤ 16)
    × (length l.t.rows ≡ 16)
    × (length l.out ≡ length l.initial.out)
    × (l.at ≡ 72 + 80 * l.i)
    × (lay l.initial.out 72 (encoded row_bytes l.t.rows) ≡ lay l.out l.at (encoded row_bytes (rest l.t.rows 16 l.i)))
    × (length (encoded row_bytes l.t.rows) ≡ 80 * l.i + length (encoded row_bytes (rest l.t.rows 16 l.i)))
