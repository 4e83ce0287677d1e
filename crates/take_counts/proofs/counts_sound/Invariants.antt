-- `take_counts::counts_sound` meets its contract: each count that was passed is within its limit.
use Prim.Native.Nat.{ℕ, ◌≤◌, ◌<◌}
use mathlib.Core.Path.{◌≡◌}
use lib.ListN.{length, get_or}
use Rattle.num_whole.specs.Tests.{less, pick}
use Rattle.take_counts.proofs.counts_sound.Given as goal

abbrev pub invariant-loop-i : goal.invariant-loop-i
invariant-loop-i l = (l.i ≤ 16) × (length l.counts ≡ 16) × ((k : ℕ) → k < l.i → get_or l.counts k 0 ≤ pick (less k l.stations) 256 0)
