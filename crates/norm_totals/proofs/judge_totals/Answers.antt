-- `norm_totals::judge_totals` meets its contract.
use native.Mathlib.Omega.{arith}
use mathlib.Core.Path.{refl}
use Rattle.num_whole.proofs.Cases.{yes, no, is_less, not_less}
use Rattle.norm_system.specs.System.{totals_where}
use Rattle.norm_totals.proofs.judge_totals.Goals as goal

pub returns-then-arcs-accepted : goal.returns-then-arcs-accepted
unfolding totals_where
returns-then-arcs-accepted c = yes _ _ _ (is_less _ _ (omega arith)) refl

pub returns-then-bound_of-square : goal.returns-then-bound_of-square
unfolding totals_where
returns-then-bound_of-square c = no _ _ _ (not_less _ _ (omega arith)) (yes _ _ _ (is_less _ _ (omega arith)) refl)

pub returns : goal.returns
unfolding totals_where
returns c = no _ _ _ (not_less _ _ (omega arith)) (no _ _ _ (not_less _ _ (omega arith)) refl)
