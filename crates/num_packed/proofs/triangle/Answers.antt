-- `num_packed::triangle` meets its contract.
use native.Mathlib.Omega.{arith}
use native.Mathlib.Nat.{mul-le-mul}
use Prim.Native.Nat.{◌+◌, ◌*◌, ◌≤◌}
use Rattle.num_packed.proofs.Places.{tri_twice}
use Rattle.num_packed.proofs.triangle.Lts
use Rattle.num_packed.proofs.triangle.Reads
use Rattle.num_packed.proofs.triangle.Goals as goal

-- the facts known at one place of the code
abbrev At-Start : Type 0
At-Start = Lts.Start Reads.Pre Reads.Post

few : (s : At-Start) → s.args.p * (s.args.p + 1) ≤ 250500
few s = let more : s.args.p + 1 ≤ 501 = omega arith in mul-le-mul s.requires more

pub overflow_mul-result : goal.overflow_mul-result
overflow_mul-result c = let most = few c in omega arith

pub returns : goal.returns
returns c = let most = few c in (omega (arith, tri_twice c.args.p), omega arith)
