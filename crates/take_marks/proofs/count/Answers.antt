-- `take_marks::count` meets its contract.
use mathlib.Core.Path.{refl}
use native.Mathlib.Omega.{arith}
use lib.Count.{ones-le}
use Rattle.take_marks.specs.Marks.{mark_count}
use Rattle.take_marks.proofs.count.Goals as goal

pub returns : goal.returns
unfolding mark_count
returns c = (refl, ones-le 16 c.args.word (omega arith))
