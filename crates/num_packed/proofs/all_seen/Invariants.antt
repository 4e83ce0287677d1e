-- `num_packed::all_seen` meets its contract. The loop's invariant: each diagonal before the ith is above 0.
use mathlib.Core.Path.{◌≡◌}
use mathlib.Core.Bool.{true}
use Prim.Native.Nat.{◌≤◌}
use Rattle.num_whole.specs.Tests.{below}
use Rattle.num_packed.specs.Plain.{seen_at}
use Rattle.num_packed.proofs.all_seen.Given as goal

abbrev pub invariant-loop-i : goal.invariant-loop-i
invariant-loop-i l = (l.i ≤ l.p) × (below (seen_at l.s) l.i ≡ true)
