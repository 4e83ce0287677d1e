-- `norm_spread::counted` meets its contract.
use mathlib.Core.Path.{refl}
use native.Mathlib.Omega.{arith}
use Rattle.num_whole.proofs.Cases.{yes, no, is_same, not_same}
use Rattle.norm_spread.proofs.counted.Goals as goal

pub returns-then-field-eq2 : goal.returns-then-field-eq2
returns-then-field-eq2 c = (yes _ _ _ (is_same _ _ c.if-field-eq2.true) refl, omega arith)

pub returns-else-field-eq2 : goal.returns-else-field-eq2
returns-else-field-eq2 c = (no _ _ _ (not_same _ _ c.if-field-eq2.false) refl, omega arith)
