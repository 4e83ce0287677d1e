-- `call_heading::labels_in` meets its contract. The loop's invariant: what is left to put makes the whole.
use Prim.Native.Nat.{◌+◌, ◌-◌, ◌*◌, ◌≤◌}
use mathlib.Core.Path.{◌≡◌}
use lib.Seq.{sets}
use Rattle.arc_kinds.specs.Kinds.{label_at}
use Rattle.arc_limits.specs.Limits.{no_label}
use Rattle.num_whole.specs.Lists.{padded}
use Rattle.byte_words.specs.Stands.{stands}
use Rattle.call_heading.proofs.labels_in.Given as goal

abbrev pub invariant-loop-i : goal.invariant-loop-i
invariant-loop-i l =
    (l.i ≤ l.n) × (l.at ≡ 16 + 16 * l.i) × (sets l.labels l.i (stands (label_at l.b) 16 (l.n - l.i) l.at) ≡ padded 50 no_label (stands (label_at l.b) 16 l.n 16))
