-- `norm_sum::least_of` meets its contract.
use mathlib.Core.Path.{refl}
use Rattle.num_whole.proofs.Cases.{yes, no}
use Rattle.norm_sum.specs.Sums.{least_of}
use Rattle.norm_sum.proofs.least_of.Goals as goal

pub returns-then-is_small : goal.returns-then-is_small
unfolding least_of
returns-then-is_small c = yes _ _ _ c.if-is_small.true refl

pub returns-else-is_small : goal.returns-else-is_small
unfolding least_of
returns-else-is_small c = no _ _ _ c.if-is_small.false refl
