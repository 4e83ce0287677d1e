-- `norm_unpack::fill_sums` meets its contract. The loop's invariant: what is left to put makes the whole.
use mathlib.Core.Path.{◌≡◌}
use Prim.Native.Nat.{◌+◌, ◌*◌, ◌-◌}
use lib.ListN.{length}
use lib.Seq.{sets}
use Rattle.norm_sum.specs.Sums.{sums_at}
use Rattle.norm_unpack.proofs.fill_sums.Given as goal

abbrev pub invariant-loop-i : goal.invariant-loop-i
invariant-loop-i l =
    (length l.out ≡ length l.initial.out) × (sets l.initial.out 0 (sums_at l.s l.start l.n) ≡ sets l.out l.i (sums_at l.s (l.start + 8 * l.i) (l.n - l.i)))
