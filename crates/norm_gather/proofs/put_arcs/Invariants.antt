-- `norm_gather::put_arcs` meets its contract. The loop's invariant: the bytes of the arcs left, laid at the place, make the whole.
use mathlib.Core.Path.{◌≡◌}
use Prim.Native.Nat.{◌+◌, ◌-◌, ◌*◌}
use lib.ListN.{length}
use Rattle.byte_words.specs.Words.{word, lay}
use Rattle.byte_words.specs.Stands.{stands}
use Rattle.byte_section.specs.Section.{encoded}
use Rattle.norm_kinds.specs.Kinds.{arc_number_bytes}
use Rattle.norm_gather.proofs.put_arcs.Given as goal

abbrev pub invariant-loop-i : goal.invariant-loop-i
invariant-loop-i l =
    (length l.out ≡ length l.initial.out)
    × (lay l.initial.out 4 (encoded arc_number_bytes (stands (word 4 l.s) 4 l.n 4)) ≡ lay l.out (4 + 4 * l.i) (encoded arc_number_bytes (stands (word 4 l.s) 4 (l.n - l.i) (4 + 4 * l.i))))
