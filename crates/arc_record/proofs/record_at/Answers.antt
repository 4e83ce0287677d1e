-- `arc_record::record_at` meets its contract: a division says whether the record is whole, and then nothing overflows.
use native.Mathlib.Omega.{arith}
use Rattle.arc_record.proofs.Places.{is_whole, not_whole, part_here, part_past, part_none}
use Rattle.arc_record.proofs.record_at.Goals as goal

pub returns-then-parameters-gt-PARAMETERS_MOST : goal.returns-then-parameters-gt-PARAMETERS_MOST
returns-then-parameters-gt-PARAMETERS_MOST c = part_none _ _ _ _ c.if-parameters-gt-PARAMETERS_MOST.true

pub overflow_mul-a : goal.overflow_mul-a
overflow_mul-a c = omega (arith, is_whole _ _ _ _ _ (omega arith) c.left.ensures c.if-i-left.true)

pub overflow_add-a : goal.overflow_add-a
overflow_add-a c = omega (arith, is_whole _ _ _ _ _ (omega arith) c.left.ensures c.if-i-left.true)

pub overflow_add-e : goal.overflow_add-e
overflow_add-e c = omega (arith, is_whole _ _ _ _ _ (omega arith) c.left.ensures c.if-i-left.true)

pub slice_bounds-result-end-then-i-left : goal.slice_bounds-result-end-then-i-left
slice_bounds-result-end-then-i-left c = omega (arith, is_whole _ _ _ _ _ (omega arith) c.left.ensures c.if-i-left.true)

pub returns-then-i-left : goal.returns-then-i-left
returns-then-i-left c =
    part_here _ _ _ _ c.if-parameters-gt-PARAMETERS_MOST.false (is_whole _ _ _ _ _ (omega arith) c.left.ensures c.if-i-left.true)

pub returns-else-i-left : goal.returns-else-i-left
returns-else-i-left c =
    part_past _ _ _ _ c.if-parameters-gt-PARAMETERS_MOST.false (not_whole _ _ _ _ _ (omega arith) c.left.ensures c.if-i-left.false)
