-- `list_lines::put_parameters` meets its contract. The loop's invariant: the lines of the labels left, laid at the place, make the whole.
use Prim.Native.Nat.{◌≤◌}
use mathlib.Core.Path.{◌≡◌}
use lib.ListN.{length}
use Rattle.num_whole.specs.Lists.{rest}
use Rattle.decimal.specs.Laid.{laid}
use Rattle.arc_heading.specs.Judge.{labels_of}
use Rattle.list_lines.specs.Lines.{parameter_lines}
use Rattle.list_lines.proofs.put_parameters.Given as goal

abbrev pub invariant-loop-i : goal.invariant-loop-i
invariant-loop-i l =
    (l.i ≤ l.n)
    × (length l.h.labels ≡ 50)
    × (length l.room ≡ length l.initial.room)
    × (laid l.room l.at (parameter_lines l.matrix l.rights l.t.marks l.i (rest l.h.labels l.n l.i)) ≡ laid l.initial.room l.start (parameter_lines l.matrix l.rights l.t.marks 0 (labels_of l.h)))
