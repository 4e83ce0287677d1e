-- `norm_unpack::fill_labels` meets its contract. The loop's invariant: what is left to put makes the whole.
use mathlib.Core.Path.{◌≡◌}
use Prim.Native.Nat.{◌+◌, ◌*◌, ◌-◌}
use lib.ListN.{length}
use Rattle.byte_words.specs.Words.{lay}
use Rattle.norm_unpack.specs.Parts.{label_numbers_from}
use Rattle.norm_unpack.proofs.fill_labels.Given as goal

abbrev pub invariant-loop-i : goal.invariant-loop-i
invariant-loop-i l =
    (length l.heads ≡ length l.initial.heads)
    × (lay l.initial.heads l.first (label_numbers_from l.s l.n l.start) ≡ lay l.heads (l.first + 5 * l.i) (label_numbers_from l.s (l.n - l.i) (l.start + 24 * l.i)))
