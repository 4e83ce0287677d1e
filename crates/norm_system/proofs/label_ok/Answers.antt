-- `norm_system::label_ok` meets its contract.
use native.Mathlib.Omega.{arith}
use Rattle.std.proofs.lemmas.Grind.{common_steps}
use Rattle.std.proofs.lemmas.Bool.Decides.{nat_tests}
use Rattle.num_whole.specs.Tests.{up_to, both}
use Rattle.norm_system.specs.System.{normal_label_ok}
use Rattle.norm_system.proofs.label_ok.Goals as goal
use Rattle.norm_system.proofs.label_ok.Goals.{then-l-le-WEIGHT_MOST, else-l-le-WEIGHT_MOST}

pub returns-then-index_ok : goal.returns-then-index_ok
unfolding normal_label_ok both up_to
returns-then-index_ok c = grind (arith, nat_tests, common_steps)

pub returns-else-index_ok : goal.returns-else-index_ok
unfolding normal_label_ok both up_to
returns-else-index_ok c = grind (arith, nat_tests, common_steps)
