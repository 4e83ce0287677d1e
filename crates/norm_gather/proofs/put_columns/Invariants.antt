-- `norm_gather::put_columns` meets its contract. The loop's invariant: the bytes of the columns left, laid at the place, make the whole.
use mathlib.Core.Path.{◌≡◌}
use Prim.Native.Nat.{◌≤◌, ◌+◌, ◌-◌, ◌*◌}
use lib.ListN.{length}
use Rattle.byte_words.specs.Words.{lay}
use Rattle.byte_section.specs.Section.{encoded}
use Rattle.num_packed.specs.Triangle.{tri}
use Rattle.norm_kinds.specs.Kinds.{sum_bytes}
use Rattle.norm_labels.specs.Table.{columns_of}
use Rattle.norm_gather.specs.Gather.{gathered_at}
use Rattle.norm_gather.proofs.put_columns.Given as goal

abbrev pub invariant-loop-j : goal.invariant-loop-j
invariant-loop-j l =
    (l.j ≤ length l.u) × (l.k ≡ l.at + 8 * tri l.j) × (length l.out ≡ length l.initial.out)
    × (lay l.initial.out l.at (encoded sum_bytes (columns_of (gathered_at l.s l.start l.n l.u) 0 (length l.u))) ≡ lay l.out l.k (encoded sum_bytes (columns_of (gathered_at l.s l.start l.n l.u) l.j (length l.u - l.j))))
