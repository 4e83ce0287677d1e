-- `arc_fields::needed` meets its contract: so few records are short enough that the sum fits.
use native.Mathlib.Omega.{arith}
use Rattle.arc_fields.proofs.Run.{run_short}
use Rattle.arc_fields.proofs.needed.Goals as goal

pub overflow_add-result-3 : goal.overflow_add-result-3
overflow_add-result-3 c = omega (arith, run_short _ _ c.requires.0 c.requires.2)
