-- `merge_heads::put_arcs` meets its contract. The loop's invariant: the bytes of the arcs left, laid at the place, make the whole.
use mathlib.Core.Path.{◌≡◌}
use Prim.Native.Nat.{◌+◌, ◌-◌, ◌*◌}
use lib.ListN.{length}
use Rattle.byte_words.specs.Words.{lay}
use Rattle.byte_section.specs.Section.{encoded}
use Rattle.norm_kinds.specs.Kinds.{arc_number_bytes}
use Rattle.norm_labels.specs.Table.{rows_of}
use Rattle.merge_heads.specs.Heads.{number_at}
use Rattle.merge_heads.proofs.put_arcs.Given as goal

abbrev pub invariant-loop-i : goal.invariant-loop-i
invariant-loop-i l =
    (length l.out ≡ length l.initial.out)
    × (lay l.initial.out l.at (encoded arc_number_bytes (rows_of (number_at l.xs l.left l.ys l.right) 0 l.count)) ≡ lay l.out (l.at + 4 * l.i) (encoded arc_number_bytes (rows_of (number_at l.xs l.left l.ys l.right) l.i (l.count - l.i))))
