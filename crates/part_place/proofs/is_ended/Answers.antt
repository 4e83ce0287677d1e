-- `part_place::is_ended` meets its contract.
use Rattle.num_whole.proofs.Cases.{holds, is_same, not_same, by_same, by_up_to}
use Rattle.part_place.proofs.Places.{stops}
use Rattle.part_place.proofs.is_ended.Goals as goal

pub returns-then-length-a : goal.returns-then-length-a
returns-then-length-a c = rw c.in-Ok.is (holds _ _ (is_same _ _ c.if-length-a.true) (by_same _ _))

pub returns-else-length-a : goal.returns-else-length-a
returns-else-length-a c = rw c.in-Ok.is (stops _ (by_same _ _) (not_same _ _ c.if-length-a.false))

pub returns-then-length-eq0 : goal.returns-then-length-eq0
returns-then-length-eq0 c = rw c.in-Err.is (holds _ _ (is_same _ _ c.if-length-eq0.true) (by_up_to _ _))

pub returns-else-length-eq0 : goal.returns-else-length-eq0
returns-else-length-eq0 c = rw c.in-Err.is (stops _ (by_same _ _) (not_same _ _ c.if-length-eq0.false))
