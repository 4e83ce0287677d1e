-- `norm_fields::labels_ascend` meets its contract. The loop's invariant: the labels left, from the floor up, make the whole.
use mathlib.Core.Path.{◌≡◌}
use Prim.Native.Nat.{◌≤◌, ◌+◌, ◌*◌, ◌-◌}
use Rattle.byte_words.specs.Stands.{stands}
use Rattle.norm_room.specs.Room.{label_in_heads}
use Rattle.num_whole.specs.Lists.{ascend}
use Rattle.norm_system.specs.System.{key_of}
use Rattle.norm_fields.proofs.labels_ascend.Given as goal

abbrev pub invariant-loop-i : goal.invariant-loop-i
invariant-loop-i l =
    (l.i ≤ l.n)
    × (ascend key_of 0 (stands (label_in_heads l.heads) 5 l.n l.arcs) ≡ ascend key_of l.floor (stands (label_in_heads l.heads) 5 (l.n - l.i) (l.arcs + 5 * l.i)))
