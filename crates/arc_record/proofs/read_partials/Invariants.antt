-- `arc_record::read_partials` meets its contract. The loop's invariant: what is left to fill makes the whole.
use mathlib.Core.Path.{◌≡◌}
use Prim.Native.Nat.{◌+◌, ◌-◌, ◌*◌, ◌≤◌}
use lib.ListN.{length}
use lib.Seq.{sets}
use Rattle.arc_record.specs.Record.{partials_from, partials_in}
use Rattle.arc_record.proofs.read_partials.Given as goal

abbrev pub invariant-loop-i : goal.invariant-loop-i
invariant-loop-i l = (l.i ≤ l.n) × (length l.out ≡ l.n) × (l.at ≡ 32 + 2 * l.i) × (sets l.out l.i (partials_from (l.n - l.i) l.bytes l.at) ≡ partials_in l.n l.bytes)
