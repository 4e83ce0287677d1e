-- `norm_spread::spread_column` meets its contract.
use mathlib.Core.Path.{◌∙◌}
use Rattle.norm_spread.proofs.Rows.{zeros_are, sums_are}
use Rattle.norm_spread.proofs.spread_column.Goals as goal

pub returns-then-field-eq2 : goal.returns-then-field-eq2
returns-then-field-eq2 c = c.clear.ensures ∙ zeros_are _ _ _ _ _ c.if-field-eq2.true

pub returns-else-field-eq2 : goal.returns-else-field-eq2
returns-else-field-eq2 c = c.spread_row.ensures ∙ sums_are _ _ _ _ _ c.if-field-eq2.false
