-- `norm_fields::arcs_fit` meets its contract. The loop's invariant: the arcs left make the whole.
use mathlib.Core.Path.{◌≡◌}
use Prim.Native.Nat.{◌≤◌}
use lib.ListN.{take}
use Rattle.num_whole.specs.Lists.{all, rest}
use Rattle.norm_system.specs.System.{arc_ok}
use Rattle.norm_fields.proofs.arcs_fit.Given as goal

abbrev pub invariant-loop-i : goal.invariant-loop-i
invariant-loop-i l =
    (l.i ≤ l.n) × (all arc_ok (take l.n l.heads) ≡ all arc_ok (rest l.heads l.n l.i))
