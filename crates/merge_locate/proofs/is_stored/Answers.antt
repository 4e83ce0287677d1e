-- `merge_locate::is_stored` meets its contract.
use mathlib.Core.Path.{ap, ◌∙◌}
use mathlib.Core.Bool.{not}
use native.Mathlib.Omega.{arith}
use Rattle.num_whole.specs.Tests.{same}
use Rattle.num_whole.proofs.Cases.{holds, fails, is_less, not_less, by_less, by_not_same}
use Rattle.merge_locate.specs.Locate.{stored_at}
use Rattle.merge_locate.proofs.is_stored.Goals as goal

pub returns-then-q-p : goal.returns-then-q-p
unfolding stored_at
returns-then-q-p c = holds _ _ (is_less _ _ (omega arith)) (by_not_same _ _ ∙ ap (λ n. not (same n 2)) c.read_u32.ensures)

pub returns-else-q-p : goal.returns-else-q-p
unfolding stored_at
returns-else-q-p c = by_less _ _ ∙ not_less _ _ (omega arith) ∙ fails _ _ (not_less _ _ (omega arith))
