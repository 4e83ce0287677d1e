-- `merge_heads::label_in` meets its contract, one step for its test.
use native.Mathlib.Omega.{arith}
use Rattle.merge_heads.proofs.Chosen.{label_first, label_second}
use Rattle.merge_heads.proofs.label_in.Goals as goal

pub returns-then-p-n : goal.returns-then-p-n
returns-then-p-n c = label_first _ _ _ _ _ _ _ (omega arith) c.label_at.ensures

pub overflow_mul-q : goal.overflow_mul-q
overflow_mul-q c = omega (arith, c.requires.2 (omega arith))

pub overflow_add-begin : goal.overflow_add-begin
overflow_add-begin c = omega (arith, c.requires.2 (omega arith))

pub label_at-requires-else-p-n : goal.label_at-requires-else-p-n
label_at-requires-else-p-n c = omega (arith, c.requires.2 (omega arith))

pub returns-else-p-n : goal.returns-else-p-n
returns-else-p-n c = label_second _ _ _ _ _ _ _ (omega arith) c.label_at-else-p-n.ensures
