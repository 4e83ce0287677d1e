-- `norm_room::sums_roomy` meets its contract.
use native.Mathlib.Omega.{arith}
use Rattle.std.proofs.lemmas.Grind.{common_steps}
use Rattle.std.proofs.lemmas.Bool.Decides.{nat_tests}
use Rattle.num_whole.specs.Tests.{up_to, both}
use Rattle.num_packed.specs.Room.{sums_roomy}
use Rattle.norm_room.proofs.sums_roomy.Goals as goal

pub returns-then-triangle-matrix : goal.returns-then-triangle-matrix
unfolding sums_roomy both up_to
returns-then-triangle-matrix c = grind (arith, nat_tests, common_steps, c.triangle.ensures.0)

pub returns-else-triangle-matrix : goal.returns-else-triangle-matrix
unfolding sums_roomy both up_to
returns-else-triangle-matrix c = grind (arith, nat_tests, common_steps, c.triangle.ensures.0)
