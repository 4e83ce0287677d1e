-- `norm_read::judge_sums` meets its contract: each place is that of the sum itself.
use native.Mathlib.Omega.{arith}
use mathlib.Core.Path.{sym, ap}
use Rattle.norm_walk.proofs.Wheres.{inside_matrix, inside_rights}
use Rattle.norm_read.specs.Parts.{judged_where, judged_sums}
use Rattle.norm_read.proofs.judge_sums.Goals as goal

pub overflow_mul-place : goal.overflow_mul-place
overflow_mul-place c = omega (arith, inside_matrix _ _ _ _ _ _ _ _ (sym (rw c.in-Some-Matrix.field-0-is at c.in-Some-Matrix.ensures)))

pub overflow_add-place : goal.overflow_add-place
overflow_add-place c = omega (arith, inside_matrix _ _ _ _ _ _ _ _ (sym (rw c.in-Some-Matrix.field-0-is at c.in-Some-Matrix.ensures)))

pub overflow_mul-place-in-Some-Right : goal.overflow_mul-place-in-Some-Right
overflow_mul-place-in-Some-Right c = omega (arith, inside_rights _ _ _ _ _ _ _ _ (sym (rw c.in-Some-Right.field-0-is at c.in-Some-Right.ensures)))

pub overflow_add-place-in-Some-Right : goal.overflow_add-place-in-Some-Right
overflow_add-place-in-Some-Right c = omega (arith, inside_rights _ _ _ _ _ _ _ _ (sym (rw c.in-Some-Right.field-0-is at c.in-Some-Right.ensures)))

pub returns-in-None : goal.returns-in-None
unfolding judged_sums judged_where
returns-in-None c = ap (judged_where c.args.r) c.in-None.ensures

pub returns-in-Some-Matrix : goal.returns-in-Some-Matrix
unfolding judged_sums judged_where
returns-in-Some-Matrix c = ap (judged_where c.args.r) (rw c.in-Some-Matrix.field-0-is at c.in-Some-Matrix.ensures)

pub returns-in-Some-Right : goal.returns-in-Some-Right
unfolding judged_sums judged_where
returns-in-Some-Right c = ap (judged_where c.args.r) (rw c.in-Some-Right.field-0-is at c.in-Some-Right.ensures)

pub returns-in-Some-Accepted : goal.returns-in-Some-Accepted
unfolding judged_sums judged_where
returns-in-Some-Accepted c = ap (judged_where c.args.r) (rw c.in-Some-Accepted.field-0-is at c.in-Some-Accepted.ensures)

pub returns-in-Some-Square : goal.returns-in-Some-Square
unfolding judged_sums judged_where
returns-in-Some-Square c = ap (judged_where c.args.r) (rw c.in-Some-Square.field-0-is at c.in-Some-Square.ensures)
