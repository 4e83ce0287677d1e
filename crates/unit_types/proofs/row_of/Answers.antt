-- `unit_types::row_of` meets its contract: the test of the type is the definition's.
use mathlib.Core.Path.{refl, ap, sym, ◌∙◌}
use Rattle.num_whole.specs.Answer.{given}
use Rattle.num_whole.proofs.Cases.{yes, no}
use Rattle.unit_types.specs.Types.{row_at}
use Rattle.unit_types.proofs.row_of.Goals as goal

pub returns-then-is_type : goal.returns-then-is_type
unfolding row_at
returns-then-is_type c = yes _ _ _ (sym c.is_type.ensures ∙ c.if-is_type.true) (ap given c.table_row.ensures)

pub returns-else-is_type : goal.returns-else-is_type
unfolding row_at
returns-else-is_type c = no _ _ _ (sym c.is_type.ensures ∙ c.if-is_type.false) refl
