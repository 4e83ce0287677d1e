-- `take_counts::accepted` meets its contract. The loop's invariant: the sum so far, with what is left, is the total; it fits its word, and is small
-- where the counts are.
use Prim.Native.Nat.{◌≤◌, ◌+◌, ◌*◌}
use mathlib.Core.Path.{◌≡◌}
use lib.ListN.{length, drop}
use Rattle.take_counts.specs.Counts.{sum_of, Few}
use Rattle.take_counts.proofs.accepted.Given as goal

abbrev pub invariant-loop-station : goal.invariant-loop-station
invariant-loop-station l =
    (l.station ≤ 16)
    × (length l.counts ≡ 16)
    × (l.n ≤ 4294967296 * l.station)
    × (Few l.counts → l.n ≤ 256 * l.station)
    × (sum_of l.counts ≡ l.n + sum_of (drop l.station l.counts))
