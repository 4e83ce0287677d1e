-- `num_packed::first_broken_side` meets its contract. The loop's invariant: the first of those left is the first of all.
use mathlib.Core.Path.{◌≡◌}
use Prim.Native.Nat.{◌≤◌, ◌-◌}
use Rattle.num_packed.specs.Sound.{breaks_side}
use Rattle.num_packed.specs.Found.{first_from}
use Rattle.num_packed.proofs.first_broken_side.Given as goal

abbrev pub invariant-loop-i : goal.invariant-loop-i
invariant-loop-i l = (l.i ≤ l.p) × (first_from (breaks_side l.bound l.s l.r) 0 l.p ≡ first_from (breaks_side l.bound l.s l.r) l.i (l.p - l.i))
