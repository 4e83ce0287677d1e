-- `norm_fields::arcs_ascend` meets its contract. The loop's invariant: the arcs left, from the floor up, make the whole.
use mathlib.Core.Path.{◌≡◌}
use Prim.Native.Nat.{◌≤◌}
use lib.ListN.{take}
use Rattle.num_whole.specs.Lists.{ascend, rest}
use Rattle.norm_fields.proofs.arcs_ascend.Given as goal

abbrev pub invariant-loop-i : goal.invariant-loop-i
invariant-loop-i l =
    (l.i ≤ l.n) × (ascend (λ a. a) 0 (take l.n l.heads) ≡ ascend (λ a. a) l.floor (rest l.heads l.n l.i))
