-- `norm_spread::clear` meets its contract. The loop's invariant: what is left to put makes the whole.
use mathlib.Core.Path.{◌≡◌}
use Prim.Native.Nat.{◌≤◌, ◌+◌, ◌-◌}
use lib.IntN.{pos}
use lib.ListN.{length}
use lib.Seq.{sets}
use Rattle.norm_labels.specs.Table.{rows_of}
use Rattle.norm_spread.proofs.clear.Given as goal

abbrev pub invariant-loop-i : goal.invariant-loop-i
invariant-loop-i l = (l.i ≤ l.n) × (length l.out ≡ length l.initial.out) × (sets l.initial.out l.k (rows_of (λ i. pos 0) 0 l.n) ≡ sets l.out (l.k + l.i) (rows_of (λ i. pos 0) l.i (l.n - l.i)))
