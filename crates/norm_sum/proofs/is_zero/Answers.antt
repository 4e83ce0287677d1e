-- `norm_sum::is_zero` meets its contract.
use Rattle.num_packed.proofs.Tests.{zero_bits}
use Rattle.norm_sum.proofs.is_zero.Goals as goal

pub returns : goal.returns
returns c = zero_bits c.args.x c.ranges.x
