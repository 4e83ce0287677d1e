-- `norm_add::sum_of` meets its contract: what adds up to less than 2^63 in size fits.
use Prim.Native.Nat.{◌+◌, ◌≤◌}
use native.Mathlib.Nat.{le_refl}
use native.Mathlib.Omega.{arith}
use lib.IntN.{◌+ℤ◌, nat_abs}
use mir.Syntax.{w64}
use mir.Val.{SFits}
use mir.ValLaws.{to_z-of_z}
use Rattle.num_whole.proofs.Ints.{+-within, within_fits}
use Rattle.norm_add.proofs.sum_of.Lts
use Rattle.norm_add.proofs.sum_of.Reads
use Rattle.norm_add.proofs.sum_of.Goals as goal

-- the facts known at one place of the code
abbrev At-Start : Type 0
At-Start = Lts.Start Reads.Pre Reads.Post

sum : (c : At-Start) → SFits w64 (c.args.x +ℤ c.args.y)
sum c =
    let m : nat_abs (c.args.x +ℤ c.args.y) ≤ nat_abs c.args.x + nat_abs c.args.y = +-within c.args.x c.args.y (le_refl _) (le_refl _) in
    let p : nat_abs (c.args.x +ℤ c.args.y) ≤ 9223372036854775807 = omega (arith, c.requires) in
    within_fits w64 (c.args.x +ℤ c.args.y) p tt

pub overflow_add-result : goal.overflow_add-result
overflow_add-result c = simp (to_z-of_z w64 _ c.ranges.x, to_z-of_z w64 _ c.ranges.y) (sum c)

pub returns : goal.returns
returns c = simp (to_z-of_z w64 _ c.ranges.x, to_z-of_z w64 _ c.ranges.y, to_z-of_z w64 _ (sum c))
