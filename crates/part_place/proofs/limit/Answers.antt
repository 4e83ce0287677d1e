-- `part_place::limit` meets its contract.
use native.Mathlib.Omega.{arith}
use mathlib.Core.Path.{refl}
use Rattle.num_whole.proofs.Cases.{yes, no, is_less, not_less}
use Rattle.part_place.proofs.limit.Goals as goal

pub returns-then-taken-count : goal.returns-then-taken-count
returns-then-taken-count c = (yes _ _ _ (is_less _ _ (omega arith)) refl, omega arith)

pub returns-else-taken-count : goal.returns-else-taken-count
returns-else-taken-count c = (no _ _ _ (not_less _ _ (omega arith)) refl, omega arith)
