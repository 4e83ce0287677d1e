-- `call_position::flag` meets its contract.
use mathlib.Core.Path.{refl}
use Rattle.num_whole.proofs.Cases.{yes, no}
use Rattle.call_position.proofs.flag.Goals as goal

pub returns-then-b : goal.returns-then-b
returns-then-b c = yes _ _ _ c.if-b.true refl

pub returns-else-b : goal.returns-else-b
returns-else-b c = no _ _ _ c.if-b.false refl
