-- `norm_add::add_column` meets its contract. The loop's invariant: the first i sums are at their places.
use mathlib.Core.Path.{◌≡◌}
use Prim.Native.Nat.{◌≤◌, ◌+◌, ◌-◌, ◌*◌}
use lib.ListN.{length}
use Rattle.norm_add.proofs.Scatter.{Scattered}
use Rattle.norm_add.proofs.add_column.Given as goal

abbrev pub invariant-loop-i : goal.invariant-loop-i
invariant-loop-i l = (length l.part ≡ length l.initial.part) × Scattered l.s l.c.base l.t l.initial.part l.part l.i
