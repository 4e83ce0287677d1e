-- `take_add::add_times` meets its contract. The loop's invariant: the places before i are done, and the others as they were.
-- A signed local is its bits to an invariant, so f stands there as `to_z w64 f`.
use Prim.Native.Nat.{◌≤◌, ◌-◌}
use lib.ListN.{drop}
use Rattle.num_whole.specs.Sums.{plus}
use Rattle.num_packed.specs.Triangle.{times}
use Rattle.take_add.proofs.Lists.{Adding}
use Rattle.take_add.proofs.add_times.Given as goal

abbrev pub invariant-loop-i : goal.invariant-loop-i
invariant-loop-i l = (l.i ≤ l.n) × Adding (plus l.initial.part (times l.f l.a)) l.initial.part l.part l.i (times l.f (drop l.i l.a))

abbrev pub decreases-loop-i : goal.decreases-loop-i
decreases-loop-i l = l.n - l.i
