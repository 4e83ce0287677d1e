-- `norm_gather::put_gathered` meets its contract. The loop's invariant: the bytes of the sums left, laid at the place, make the whole.
use mathlib.Core.Path.{◌≡◌}
use Prim.Native.Nat.{◌+◌, ◌-◌, ◌*◌}
use lib.ListN.{length}
use Rattle.byte_words.specs.Words.{lay}
use Rattle.byte_section.specs.Section.{encoded}
use Rattle.norm_kinds.specs.Kinds.{sum_bytes}
use Rattle.norm_labels.specs.Table.{rows_of}
use Rattle.norm_gather.specs.Gather.{side_gathered}
use Rattle.norm_gather.proofs.put_gathered.Given as goal

abbrev pub invariant-loop-i : goal.invariant-loop-i
invariant-loop-i l =
    (length l.out ≡ length l.initial.out)
    × (lay l.initial.out l.at (encoded sum_bytes (rows_of (side_gathered l.s l.c l.u) 0 l.count)) ≡ lay l.out (l.at + 8 * l.i) (encoded sum_bytes (rows_of (side_gathered l.s l.c l.u) l.i (l.count - l.i))))
