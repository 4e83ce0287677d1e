-- `call_heading::stations_in` meets its contract. The loop's invariant: what is left to put makes the whole.
use Prim.Native.Nat.{◌+◌, ◌-◌, ◌*◌, ◌≤◌}
use mathlib.Core.Path.{◌≡◌}
use lib.Seq.{sets}
use Rattle.arc_kinds.specs.Kinds.{station_at}
use Rattle.arc_limits.specs.Limits.{no_station}
use Rattle.num_whole.specs.Lists.{padded}
use Rattle.byte_words.specs.Stands.{stands}
use Rattle.call_heading.proofs.stations_in.Given as goal

abbrev pub invariant-loop-i : goal.invariant-loop-i
invariant-loop-i l =
    (l.i ≤ l.n) × (l.at ≡ l.start + 8 * l.i) × (sets l.listed l.i (stands (station_at l.b) 8 (l.n - l.i) l.at) ≡ padded 16 no_station (stands (station_at l.b) 8 l.n l.start))
