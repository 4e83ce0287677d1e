-- `take_state::bound_of` meets its contract: the product is at most 2 ^ 58.
use mir.ValLaws.{to_z-of_z}
use lib.IntN.{pos}
use Prim.Native.Nat.{◌*◌, ◌^◌, ◌≤◌}
use native.Mathlib.Nat.{mul-le-mul}
use native.Mathlib.Omega.{arith}
use mir.Syntax.{w64}
use Rattle.take_state.proofs.bound_of.Lts
use Rattle.take_state.proofs.bound_of.Reads
use Rattle.take_state.proofs.bound_of.Goals as goal

-- the facts known at one place of the code
abbrev At-Start : Type 0
At-Start = Lts.Start Reads.Pre Reads.Post

small : (c : At-Start) → c.args.n * c.args.unit ≤ 4096 * 2 ^ 46
small c = mul-le-mul c.requires.0 c.requires.1

pub overflow_mul-result : goal.overflow_mul-result
overflow_mul-result c = omega (arith, small c)

pub overflow_cast-result : goal.overflow_cast-result
overflow_cast-result c = record { sfits = omega (arith, small c) }

pub returns : goal.returns
returns c = to_z-of_z w64 (pos (c.args.n * c.args.unit)) (overflow_cast-result c)
