-- `merge_read::agree_in` meets its contract, one step for each test.
use native.Mathlib.Omega.{arith}
use Rattle.merge_read.proofs.Compared.{agree_both, agree_left, agree_right}
use Rattle.merge_read.proofs.agree_in.Goals as goal

pub returns-then-q-m : goal.returns-then-q-m
returns-then-q-m c = agree_both _ _ _ _ _ _ _ _ (omega arith) (omega arith) c.alike_at.ensures

pub returns-else-q-m : goal.returns-else-q-m
returns-else-q-m c = agree_left _ _ _ _ _ _ _ _ (omega arith) (omega arith)

pub returns-else-p-n : goal.returns-else-p-n
returns-else-p-n c = agree_right _ _ _ _ _ _ _ _ (omega arith)
