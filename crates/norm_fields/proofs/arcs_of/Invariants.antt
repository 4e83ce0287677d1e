-- `norm_fields::arcs_of` meets its contract. The loop's invariant: the arcs passed are copied.
use mathlib.Core.Path.{◌≡◌}
use Prim.Native.Nat.{◌≤◌}
use lib.ListN.{length, take}
use Rattle.norm_fields.proofs.arcs_of.Given as goal

abbrev pub invariant-loop-i : goal.invariant-loop-i
invariant-loop-i l =
    (l.i ≤ l.n) × (length l.arcs ≡ 16) × (take l.i l.arcs ≡ take l.i l.heads)
