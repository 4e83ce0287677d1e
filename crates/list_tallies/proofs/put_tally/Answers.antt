-- `list_tallies::put_tally` meets its contract: no line where the tally is 0.
use mathlib.Core.Path.{refl, sym}
use Rattle.decimal.proofs.Laying.{laid_as}
use Rattle.list_lines.proofs.Laws.{lines_end, tally_none, tally_some}
use Rattle.list_tallies.proofs.put_tally.Goals as goal

pub returns-then-n-eq0 : goal.returns-then-n-eq0
returns-then-n-eq0 c =
    let a = c.args in
    lines_end _ _ c.min.ensures (sym (tally_none a.table.now a.k c.tally-n.ensures c.if-n-eq0.true)) refl

pub returns-else-n-eq0 : goal.returns-else-n-eq0
returns-else-n-eq0 c =
    let a = c.args in
    laid_as _ _ c.put_two.ensures (tally_some a.table.now a.k c.tally-n.ensures c.if-n-eq0.false)
