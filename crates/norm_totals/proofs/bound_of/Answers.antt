-- `norm_totals::bound_of` meets its contract.
use native.Mathlib.Omega.{arith}
use mathlib.Core.Path.{refl}
use native.Mathlib.Nat.{mul-le-mul}
use Rattle.num_whole.proofs.Cases.{yes, no, is_same, not_same}
use Rattle.norm_system.specs.System.{bound_of}
use Rattle.norm_totals.proofs.bound_of.Goals as goal

pub returns-then-accepted-eq0 : goal.returns-then-accepted-eq0
unfolding bound_of
returns-then-accepted-eq0 c = (yes _ _ _ (is_same _ _ c.if-accepted-eq0.true) refl, omega arith)

pub overflow_mul-result : goal.overflow_mul-result
overflow_mul-result c = let most = mul-le-mul c.requires.0 c.requires.1 in omega arith

pub returns-else-accepted-eq0 : goal.returns-else-accepted-eq0
unfolding bound_of
returns-else-accepted-eq0 c = (no _ _ _ (not_same _ _ c.if-accepted-eq0.false) refl, mul-le-mul c.requires.0 c.requires.1)
