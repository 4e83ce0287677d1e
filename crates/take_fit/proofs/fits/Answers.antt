-- `take_fit::fits` meets its contract.
use mathlib.Core.Path.{sym, ◌∙◌}
use native.Mathlib.Omega.{arith}
use Rattle.take_fit.proofs.Steps.{too_short, too_long, whole_fit}
use Rattle.take_fit.proofs.fits.Goals as goal

pub returns-then-bytes-size : goal.returns-then-bytes-size
returns-then-bytes-size c = too_short _ _ (omega arith)

pub returns-then-size-bytes : goal.returns-then-size-bytes
returns-then-size-bytes c = too_long _ _ (omega arith)

pub returns : goal.returns
returns c = c.fit_record.ensures _ _ c.decode.ensures ∙ sym (whole_fit _ _ (omega arith))
