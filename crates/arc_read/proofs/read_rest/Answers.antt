-- `arc_read::read_rest` meets its contract: the records, and then 3 where bytes follow them.
use native.Mathlib.Omega.{arith}
use mathlib.Core.Path.{sym}
use Rattle.std.proofs.lemmas.Result.{err_from_is_err_and}
use Rattle.arc_read.proofs.Parts.{rest_surplus, rest_read, rest_start, rest_refused}
use Rattle.arc_read.proofs.read_rest.Goals as goal

pub returns-in_err-count : goal.returns-in_err-count
returns-in_err-count c =
    let p = err_from_is_err_and c.from_residual.result c.from_residual.ensures.1 in
    rw (p.1, p.2) (rest_refused _ _ _ (sym c.in_err-count.ensures))

pub overflow_add-result : goal.overflow_add-result
overflow_add-result c = omega (arith, rest_start _ _ _ _ (sym c.in_ok-count.ensures))

pub returns-then-end-s : goal.returns-then-end-s
returns-then-end-s c = rest_surplus _ _ _ _ (sym c.in_ok-count.ensures) (omega arith)

pub returns-else-end-s : goal.returns-else-end-s
returns-else-end-s c = rest_read _ _ _ _ (sym c.in_ok-count.ensures) (omega arith)
