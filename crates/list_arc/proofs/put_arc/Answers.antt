-- `list_arc::put_arc` meets its contract, line by line.
use Rattle.list_lines.proofs.Laws.{arc_laid}
use Rattle.list_arc.proofs.put_arc.Goals as goal

pub returns : goal.returns
returns c =
    let a = c.args in
    arc_laid a.room.now _ a.count a.table.now a.matrix.now a.rights.now _
    c.tally.ensures c.put_one-a.ensures c.put_one-b.ensures c.put_parameters-c.ensures c.put_two-d.ensures c.put_tallies-e.ensures c.put_one.ensures
