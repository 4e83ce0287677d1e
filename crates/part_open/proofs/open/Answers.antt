-- `part_open::open` meets its contract: the heading, and the count after it.
use mathlib.Core.Path.{sym, ◌∙◌}
use Rattle.std.proofs.lemmas.Result.{err_from_is_err_and}
use native.Mathlib.Omega.{arith}
use Rattle.part_open.proofs.Opens.{opens, opens_not, heading_not, count_room, count_most_lem}
use Rattle.part_open.proofs.open.Goals as goal

pub overflow_add-result : goal.overflow_add-result
overflow_add-result c = omega (arith, count_room _ _ _ (sym c.in_ok-count.ensures))

pub returns-clause-opened : goal.returns-clause-opened
returns-clause-opened c = opens _ _ (sym c.in_ok-front.ensures.read) _ (sym c.in_ok-count.ensures)

pub returns-clause-fits : goal.returns-clause-fits
returns-clause-fits c =
    (c.in_ok-front.ensures.few, omega (arith, count_room _ _ _ (sym c.in_ok-count.ensures)), count_most_lem _ _ _ (sym c.in_ok-count.ensures))

pub returns-in_err-count-clause-opened : goal.returns-in_err-count-clause-opened
returns-in_err-count-clause-opened c =
    let p = err_from_is_err_and c.from_residual-in_err-count.result c.from_residual-in_err-count.ensures.1 in
    rw (p.1, p.2) (opens_not _ _ (sym c.in_ok-front.ensures.read) _ _ (sym c.in_err-count.ensures))

pub returns-in_err-front-clause-opened : goal.returns-in_err-front-clause-opened
returns-in_err-front-clause-opened c =
    let p = err_from_is_err_and c.from_residual.result c.from_residual.ensures.1 in
    rw (p.1, p.2) (heading_not _ _ _ (sym c.in_err-front.ensures.read))
