-- `norm_state::arc_for` meets its contract.
use mathlib.Core.Path.{refl}
use native.Mathlib.Omega.{arith}
use Rattle.num_whole.proofs.Cases.{yes, no, is_up_to, not_up_to}
use Rattle.norm_state.specs.OfState.{arc_for}
use Rattle.norm_state.proofs.arc_for.Goals as goal

pub returns-then-kind-le2 : goal.returns-then-kind-le2
unfolding arc_for
returns-then-kind-le2 c = yes _ _ _ (is_up_to _ _ (omega arith)) refl

pub returns-else-kind-le2 : goal.returns-else-kind-le2
unfolding arc_for
returns-else-kind-le2 c = no _ _ _ (not_up_to _ _ (omega arith)) refl
