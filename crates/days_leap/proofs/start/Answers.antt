-- `days_leap::start` meets its contract: the day's milliseconds and the seconds before it are far within 64 bits.
use native.Mathlib.Omega.{arith}
use Rattle.days_leap.specs.Leap.{day_start}
use Rattle.days_leap.proofs.start.Goals as goal

pub returns : goal.returns
unfolding day_start
returns c = (omega arith, omega arith)
