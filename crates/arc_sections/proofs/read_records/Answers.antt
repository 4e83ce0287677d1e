-- `arc_sections::read_records` meets its contract: its count, and then its length against what is left.
use native.Mathlib.Omega.{arith}
use mathlib.Core.Path.{sym}
use Rattle.std.proofs.lemmas.Result.{err_from_is_err_and}
use Rattle.byte_section.proofs.Walk.{counted}
use Rattle.arc_sections.proofs.Places.{few_bytes, records_here, records_cut, records_refused}
use Rattle.arc_sections.proofs.read_records.Goals as goal

pub overflow_add-start : goal.overflow_add-start
overflow_add-start c = omega (arith, (counted _ _ _ _ _ (sym c.in_ok-count.ensures)).whole)

pub overflow_mul-needed-2 : goal.overflow_mul-needed-2
overflow_mul-needed-2 c = omega (arith, few_bytes _ _ _ _ (sym c.in_ok-count.ensures) c.requires)

pub overflow_sub-s : goal.overflow_sub-s
overflow_sub-s c = omega (arith, (counted _ _ _ _ _ (sym c.in_ok-count.ensures)).whole)

pub overflow_add-result : goal.overflow_add-result
overflow_add-result c =
    omega (arith, few_bytes _ _ _ _ (sym c.in_ok-count.ensures) c.requires, (counted _ _ _ _ _ (sym c.in_ok-count.ensures)).whole)

pub returns-then-s-start : goal.returns-then-s-start
returns-then-s-start c =
    let n = sym c.in_ok-count.ensures in sym (records_cut _ _ _ _ n (omega (arith, (counted _ _ _ _ _ n).whole)) (omega (arith, (counted _ _ _ _ _ n).whole)))

pub returns-else-s-start : goal.returns-else-s-start
returns-else-s-start c =
    let n = sym c.in_ok-count.ensures in sym (records_here _ _ _ _ n (omega (arith, (counted _ _ _ _ _ n).whole)))

pub returns-in_err-count : goal.returns-in_err-count
returns-in_err-count c =
    let p = err_from_is_err_and c.from_residual.result c.from_residual.ensures.1 in
    rw (p.1, p.2) (sym (records_refused _ _ _ (sym c.in_err-count.ensures)))
