-- The walk over both lists leaves the places of every number of their union.
use mathlib.Core.Path.{◌≡◌}
use Prim.Native.Nat.{◌≤◌, ◌+◌, ◌-◌}
use lib.ListN.{length}
use Rattle.merge_join.proofs.Joining.{Walking}
use Rattle.merge_join.proofs.join.Given as goal

abbrev pub invariant-loop-i : goal.invariant-loop-i
invariant-loop-i l =
    (l.i ≤ length l.xs)
    × (l.j ≤ length l.ys)
    × (l.n ≤ l.i + l.j)
    × (length l.left ≡ length l.initial.left)
    × (length l.right ≡ length l.initial.right)
    × Walking l.xs l.ys l.initial.left l.initial.right l.left l.right l.i l.j l.n

abbrev pub decreases-loop-i : goal.decreases-loop-i
decreases-loop-i l = (length l.xs + length l.ys) - (l.i + l.j)
