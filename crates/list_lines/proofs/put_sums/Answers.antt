-- `list_lines::put_sums` meets its contract, piece by piece.
use mir.Syntax.{w64}
use mir.ValLaws.{to_z-of_z}
use Rattle.list_lines.proofs.Laws.{sums_laid}
use Rattle.list_lines.proofs.put_sums.Goals as goal

pub returns : goal.returns
returns c =
    let a = c.args in
    let f = c.ranges in
    sums_laid _ _ a.diagonal a.right a.n (to_z-of_z w64 a.diagonal f.diagonal) (to_z-of_z w64 a.right f.right)
    c.put_signed-a.ensures c.put_text-b.ensures c.put_signed-c.ensures c.put_one.ensures
