-- `list_tallies::put_tallies` meets its contract. The loop's invariant: the lines of the numbers left, laid at the place, make the whole.
use Prim.Native.Nat.{◌-◌, ◌≤◌}
use mathlib.Core.Path.{◌≡◌}
use lib.ListN.{length}
use Rattle.decimal.specs.Laid.{laid}
use Rattle.list_lines.specs.Lines.{answers_most, tally_lines}
use Rattle.list_tallies.proofs.put_tallies.Given as goal

abbrev pub invariant-loop-k : goal.invariant-loop-k
invariant-loop-k l =
    (1 ≤ l.k) × (l.k ≤ answers_most) × (length l.room ≡ length l.initial.room) × (laid l.room l.at (tally_lines l.table (answers_most - l.k) l.k) ≡ laid l.initial.room l.start (tally_lines l.table 19 1))
