-- `unit_nearest::hidden_bit` meets its contract. Assumes nothing.
use mathlib.Core.Path.{sym}
use Rattle.unit_nearest.proofs.Steps.{hidden_set}
use Rattle.unit_nearest.proofs.hidden_bit.Goals as goal

pub returns-else-exponent-eq0 : goal.returns-else-exponent-eq0
returns-else-exponent-eq0 c = sym (hidden_set c.args.exponent c.if-exponent-eq0.false)
