-- `norm_system::arc_fits` meets its contract.
use native.Mathlib.Omega.{arith}
use mathlib.Core.Path.{◌∙◌}
use Rattle.num_whole.proofs.Cases.{yes, no, is_up_to, not_up_to, by_same}
use Rattle.norm_system.specs.System.{arc_listed}
use Rattle.norm_system.proofs.Labels.{has_any}
use Rattle.norm_system.proofs.arc_fits.Goals as goal

pub returns-then-l-gt2 : goal.returns-then-l-gt2
unfolding arc_listed
returns-then-l-gt2 c = no _ _ _ (not_up_to _ _ (omega arith)) (c.contains.ensures.value ∙ has_any _ _)

pub returns-else-l-gt2 : goal.returns-else-l-gt2
unfolding arc_listed
returns-else-l-gt2 c = yes _ _ _ (is_up_to _ _ (omega arith)) (by_same _ _)
