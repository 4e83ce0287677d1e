-- `unit_nearest::is_finite` meets its contract: what is below one infinity and above the other is a number. Assumes nothing.
use mathlib.Core.Path.{refl}
use mathlib.Core.Bool.{true}
use lib.Ieee.{inf, lt, of_bits, nan_bits}
use Rattle.unit_nearest.proofs.Steps.{between, not_below}
use Rattle.unit_nearest.proofs.is_finite.Goals as goal

pub returns-then-x-top : goal.returns-then-x-top
unfolding of_bits
returns-then-x-top c = let x = c.args.x in between x (lt (inf true) x) c.if-x-top.true refl

pub returns-else-x-top : goal.returns-else-x-top
unfolding of_bits
returns-else-x-top c = not_below c.args.x c.if-x-top.false

pub float_from_bits-top : goal.float_from_bits-top
unfolding nan_bits
float_from_bits-top c = tt

pub float_from_bits-bottom : goal.float_from_bits-bottom
unfolding nan_bits
float_from_bits-bottom c = tt
