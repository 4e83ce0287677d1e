-- `take_add::add_matrix` meets its contract.
use mathlib.Core.Path.{◌≡◌}
use Prim.Native.Nat.{◌≤◌, ◌-◌}
use lib.IntN.{pos}
use lib.ListN.{length, take}
use Rattle.take_marks.specs.Marks.{marks_with}
use Rattle.num_whole.specs.Sums.{plus}
use Rattle.num_packed.specs.Triangle.{triangle_terms, columns, tri}
use Rattle.take_add.proofs.Lists.{Adding}
use Rattle.take_add.proofs.add_matrix.Given as goal

abbrev pub invariant-loop-j : goal.invariant-loop-j
invariant-loop-j l =
    (l.j ≤ length l.a) × ((l.k ≡ tri l.j) × Adding (plus l.initial.sums (triangle_terms (pos l.w) l.a)) l.initial.sums l.sums l.k (columns (pos l.w) l.a l.j (length l.a - l.j))) × (l.marks ≡ marks_with l.row (take l.j l.a) l.initial.marks)

abbrev pub decreases-loop-j : goal.decreases-loop-j
decreases-loop-j l = length l.a - l.j
