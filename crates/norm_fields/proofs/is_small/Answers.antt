-- `norm_fields::is_small` meets its contract: its tests in the definition's order.
use native.Mathlib.Omega.{arith}
use Rattle.std.proofs.lemmas.Grind.{common_steps}
use Rattle.std.proofs.lemmas.Bool.Decides.{nat_tests}
use Rattle.num_whole.specs.Tests.{up_to, both}
use Rattle.norm_fields.specs.Fields.{is_small}
use Rattle.norm_fields.proofs.is_small.Goals as goal

pub returns-then-arc-le4294967295 : goal.returns-then-arc-le4294967295
unfolding is_small both up_to
returns-then-arc-le4294967295 c = grind (arith, nat_tests, common_steps)

pub returns-else-arc-le4294967295 : goal.returns-else-arc-le4294967295
unfolding is_small both up_to
returns-else-arc-le4294967295 c = grind (arith, nat_tests, common_steps)
