-- `norm_put::put_labels` meets its contract. The loop's invariant: the bytes of the labels left, laid at the place, make the whole.
use mathlib.Core.Path.{◌≡◌}
use Prim.Native.Nat.{◌+◌, ◌-◌, ◌*◌}
use lib.ListN.{length}
use Rattle.byte_words.specs.Words.{lay}
use Rattle.byte_section.specs.Section.{encoded}
use Rattle.byte_words.specs.Stands.{stands}
use Rattle.norm_kinds.specs.Kinds.{normal_label_bytes}
use Rattle.norm_room.specs.Room.{label_in_heads}
use Rattle.norm_put.proofs.put_labels.Given as goal

abbrev pub invariant-loop-i : goal.invariant-loop-i
invariant-loop-i l =
    (length l.out ≡ length l.initial.out)
    × (lay l.initial.out (l.start + 4) (encoded normal_label_bytes (stands (label_in_heads l.heads) 5 l.n l.from)) ≡ lay l.out (l.start + 4 + 24 * l.i) (encoded normal_label_bytes (stands (label_in_heads l.heads) 5 (l.n - l.i) (l.from + 5 * l.i))))
