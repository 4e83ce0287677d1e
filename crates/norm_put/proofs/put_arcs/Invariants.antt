-- `norm_put::put_arcs` meets its contract. The loop's invariant: the bytes of the arcs left, laid at the place, make the whole.
use mathlib.Core.Path.{◌≡◌}
use Prim.Native.Nat.{◌+◌, ◌*◌}
use lib.ListN.{length}
use Rattle.num_whole.specs.Lists.{rest}
use Rattle.byte_words.specs.Words.{lay}
use Rattle.byte_section.specs.Section.{encoded}
use Rattle.norm_kinds.specs.Kinds.{arc_number_bytes}
use Rattle.norm_put.proofs.put_arcs.Given as goal

abbrev pub invariant-loop-i : goal.invariant-loop-i
invariant-loop-i l =
    (length l.out ≡ length l.initial.out)
    × (lay l.initial.out 4 (encoded arc_number_bytes (rest l.heads l.n 0)) ≡ lay l.out (4 + 4 * l.i) (encoded arc_number_bytes (rest l.heads l.n l.i)))
