-- `cells::cell_at` meets its contract: the entry at an index of the array stands for its cell.
use mathlib.Core.Path.{refl, ap, ◌∙◌}
use native.Mathlib.Omega.{arith}
use Rattle.num_whole.specs.Answer.{given}
use Rattle.num_whole.proofs.Cases.{yes, no, is_less, not_less}
use Rattle.cells.specs.Cells.{cell_at}
use Rattle.cells.proofs.cell_at.Goals as goal

pub returns-then-index-lt990 : goal.returns-then-index-lt990
unfolding cell_at
returns-then-index-lt990 c = yes _ _ _ (is_less _ _ (omega arith)) (ap given (c.decode.ensures ∙ c.entry.ensures))

pub returns-else-index-lt990 : goal.returns-else-index-lt990
unfolding cell_at
returns-else-index-lt990 c = no _ _ _ (not_less _ _ (omega arith)) refl
