-- `norm_gather::put_labels` meets its contract. The loop's invariant: the bytes of the labels left, laid at the place, make the whole.
use mathlib.Core.Path.{◌≡◌}
use Prim.Native.Nat.{◌+◌, ◌-◌, ◌*◌}
use lib.ListN.{length}
use Rattle.byte_words.specs.Words.{lay}
use Rattle.byte_section.specs.Section.{encoded}
use Rattle.norm_kinds.specs.Kinds.{fielded_bytes}
use Rattle.norm_labels.specs.Table.{rows_of}
use Rattle.norm_gather.specs.Gather.{fielded_by_seat}
use Rattle.norm_gather.proofs.put_labels.Given as goal

abbrev pub invariant-loop-i : goal.invariant-loop-i
invariant-loop-i l =
    (length l.out ≡ length l.initial.out)
    × (lay l.initial.out l.at (encoded fielded_bytes (rows_of (fielded_by_seat l.is_small l.s l.labels l.start l.n l.w) 0 (length l.w))) ≡ lay l.out (l.at + 24 * l.i) (encoded fielded_bytes (rows_of (fielded_by_seat l.is_small l.s l.labels l.start l.n l.w) l.i (length l.w - l.i))))
