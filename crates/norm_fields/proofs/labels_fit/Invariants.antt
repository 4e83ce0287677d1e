-- `norm_fields::labels_fit` meets its contract. The loop's invariant: the labels left make the whole.
use mathlib.Core.Path.{◌≡◌}
use Prim.Native.Nat.{◌≤◌, ◌+◌, ◌*◌, ◌-◌}
use Rattle.byte_words.specs.Stands.{stands}
use Rattle.norm_room.specs.Room.{label_in_heads}
use Rattle.num_whole.specs.Lists.{all}
use Rattle.norm_system.specs.System.{normal_label_ok}
use Rattle.norm_fields.proofs.labels_fit.Given as goal

abbrev pub invariant-loop-i : goal.invariant-loop-i
invariant-loop-i l =
    (l.i ≤ l.n)
    × (all (normal_label_ok l.arcs) (stands (label_in_heads l.heads) 5 l.n l.from) ≡ all (normal_label_ok l.arcs) (stands (label_in_heads l.heads) 5 (l.n - l.i) (l.from + 5 * l.i)))
