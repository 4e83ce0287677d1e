-- `list::put_parts` meets its contract. The loop's invariant: what was heard are the file's bytes up to the place.
use Prim.Native.Nat.{◌-◌, ◌≤◌}
use mathlib.Core.Path.{◌≡◌}
use lib.ListN.{length, take}
use Rattle.num_limits.specs.Capacities.{arc_sums_most, parameters_most}
use Rattle.list_run.specs.Course.{Follows}
use Rattle.list.proofs.put_parts.Given as goal

abbrev pub invariant-loop-at : goal.invariant-loop-at
invariant-loop-at l =
    (l.at ≤ length l.file) × (l.room ≡ l.initial.room) × (length l.matrix ≡ arc_sums_most) × (length l.rights ≡ parameters_most) × (length l.table ≡ length l.initial.table) × Follows (take l.at l.file) l.c l.matrix l.rights l.table

abbrev pub decreases-loop-at : goal.decreases-loop-at
decreases-loop-at l = length l.file - l.at
