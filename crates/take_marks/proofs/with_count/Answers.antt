-- `take_marks::with_count` meets its contract.
use mathlib.Core.Path.{refl}
use native.Mathlib.Omega.{arith}
use Rattle.num_whole.proofs.Cases.{yes, no, is_less, not_less}
use Rattle.take_marks.proofs.with_count.Goals as goal

pub returns-then-count-gt0 : goal.returns-then-count-gt0
returns-then-count-gt0 c = yes _ _ _ (is_less _ _ (omega arith)) c.with_mark.ensures

pub returns-else-count-gt0 : goal.returns-else-count-gt0
returns-else-count-gt0 c = no _ _ _ (not_less _ _ (omega arith)) refl
