-- `norm_walk::first_side` meets its contract. The loop's invariant: the first of those left is the first of all.
use mathlib.Core.Path.{◌≡◌}
use mathlib.Core.Bool.{Bool}
use mathlib.Core.List.{List}
use Prim.Native.Nat.{ℕ, ◌-◌, ◌≤◌}
use lib.IntN.{pos}
use Rattle.num_packed.specs.Triangle.{tri}
use Rattle.num_packed.specs.Sound.{breaks_side}
use Rattle.num_packed.specs.Found.{first_from}
use Rattle.norm_sum.specs.Sums.{sums_at}
use Rattle.norm_walk.proofs.first_side.Given as goal

-- the test of the right sides
abbrev pub sides : List ℕ → ℕ → ℕ → ℕ → ℕ → ℕ → Bool
sides s matrix rights p bound = breaks_side (pos bound) (sums_at s matrix (tri p)) (sums_at s rights p)

abbrev pub invariant-loop-i : goal.invariant-loop-i
invariant-loop-i l = (l.i ≤ l.p) × (first_from (sides l.s l.matrix l.rights l.p l.bound) 0 l.p ≡ first_from (sides l.s l.matrix l.rights l.p l.bound) l.i (l.p - l.i))
