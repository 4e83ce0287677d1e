-- `merge_heads::put_labels` meets its contract. The loop's invariant: the bytes of the labels left, laid at the place, make the whole.
use mathlib.Core.Path.{◌≡◌}
use Prim.Native.Nat.{◌+◌, ◌-◌, ◌*◌}
use lib.ListN.{length}
use Rattle.byte_words.specs.Words.{lay}
use Rattle.byte_section.specs.Section.{encoded}
use Rattle.norm_kinds.specs.Kinds.{normal_label_bytes}
use Rattle.norm_labels.specs.Table.{rows_of}
use Rattle.merge_heads.specs.Heads.{label_of_union}
use Rattle.merge_heads.proofs.put_labels.Given as goal

abbrev pub invariant-loop-i : goal.invariant-loop-i
invariant-loop-i l =
    (length l.out ≡ length l.initial.out)
    × (lay l.initial.out l.at (encoded normal_label_bytes (rows_of (label_of_union l.a l.start l.n l.left l.b l.begin l.right) 0 l.count)) ≡ lay l.out (l.at + 24 * l.i) (encoded normal_label_bytes (rows_of (label_of_union l.a l.start l.n l.left l.b l.begin l.right) l.i (l.count - l.i))))
