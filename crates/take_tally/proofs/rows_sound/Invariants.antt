-- `take_tally::rows_sound` meets its contract: each row past the stations that was passed is blank.
use Prim.Native.Nat.{ℕ, ◌≤◌, ◌<◌}
use mathlib.Core.Path.{◌≡◌}
use mathlib.Core.Bool.{true}
use lib.ListN.{get_or}
use Rattle.num_whole.specs.Tests.{same}
use Rattle.num_whole.specs.Lists.{all}
use Rattle.take_tally.specs.Tally.{no_row}
use Rattle.take_tally.proofs.rows_sound.Given as goal

abbrev pub invariant-loop-i : goal.invariant-loop-i
invariant-loop-i l = (l.stations ≤ l.i) × ((k : ℕ) → k < l.i → l.stations ≤ k → all (λ t. same t 0) (get_or l.t.rows k no_row).times ≡ true)
