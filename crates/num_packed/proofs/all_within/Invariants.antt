-- `num_packed::all_within` meets its contract. The loop's invariant: each sum before the kth is within the bound.
use mathlib.Core.Path.{◌≡◌}
use mathlib.Core.Bool.{true}
use Prim.Native.Nat.{◌≤◌}
use Rattle.num_whole.specs.Tests.{below}
use Rattle.num_packed.specs.Plain.{within_at}
use Rattle.num_packed.proofs.all_within.Given as goal

abbrev pub invariant-loop-k : goal.invariant-loop-k
invariant-loop-k l = (l.k ≤ l.n) × (below (within_at l.bound l.s) l.k ≡ true)
