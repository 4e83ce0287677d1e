-- `norm_fields::arc_fits` meets its contract.
use native.Mathlib.Omega.{arith}
use mathlib.Core.Path.{◌∙◌}
use Rattle.num_whole.proofs.Cases.{by_less, not_less}
use Rattle.norm_fields.proofs.Fields.{arc_large}
use Rattle.norm_fields.proofs.arc_fits.Goals as goal

pub returns-else-a-lt4294967296 : goal.returns-else-a-lt4294967296
returns-else-a-lt4294967296 c = by_less _ _ ∙ not_less _ _ (omega arith) ∙ arc_large _ (omega arith)
