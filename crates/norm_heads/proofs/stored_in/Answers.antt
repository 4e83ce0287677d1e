-- `norm_heads::stored_in` meets its contract.
use mathlib.Core.Path.{refl}
use Rattle.num_whole.proofs.Cases.{yes, no}
use Rattle.norm_heads.proofs.stored_in.Goals as goal

pub returns-then-is_small : goal.returns-then-is_small
returns-then-is_small c = yes _ _ _ c.if-is_small.true c.count_stored.ensures.0

pub returns-else-is_small : goal.returns-else-is_small
returns-else-is_small c = no _ _ _ c.if-is_small.false refl
