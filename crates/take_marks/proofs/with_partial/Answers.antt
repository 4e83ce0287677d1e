-- `take_marks::with_partial` meets its contract.
use mathlib.Core.Path.{refl}
use Rattle.num_whole.proofs.Cases.{yes, no}
use Rattle.take_marks.proofs.Partials.{zero_of, not_zero_of}
use Rattle.take_marks.proofs.with_partial.Goals as goal

pub returns-then-x-eq0 : goal.returns-then-x-eq0
returns-then-x-eq0 c = yes _ _ _ (zero_of _ c.ranges.x c.if-x-eq0.true) refl

pub returns-else-x-eq0 : goal.returns-else-x-eq0
returns-else-x-eq0 c = no _ _ _ (not_zero_of _ c.ranges.x c.if-x-eq0.false) c.with_mark.ensures
