-- `norm_put::put_sums` meets its contract. The loop's invariant: the bytes of the sums left, laid at the place, make the whole.
use mathlib.Core.Path.{◌≡◌}
use Prim.Native.Nat.{◌+◌, ◌*◌}
use lib.ListN.{length}
use Rattle.num_whole.specs.Lists.{rest}
use Rattle.byte_words.specs.Words.{lay}
use Rattle.byte_section.specs.Section.{encoded}
use Rattle.norm_kinds.specs.Kinds.{sum_bytes}
use Rattle.norm_put.proofs.put_sums.Given as goal

abbrev pub invariant-loop-i : goal.invariant-loop-i
invariant-loop-i l =
    (length l.out ≡ length l.initial.out)
    × (lay l.initial.out (l.start + 4) (encoded sum_bytes (rest l.sums l.n 0)) ≡ lay l.out (l.start + 4 + 8 * l.i) (encoded sum_bytes (rest l.sums l.n l.i)))
