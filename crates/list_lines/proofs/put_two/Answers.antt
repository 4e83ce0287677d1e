-- `list_lines::put_two` meets its contract, piece by piece.
use Rattle.list_lines.proofs.Laws.{two_laid}
use Rattle.list_lines.proofs.put_two.Goals as goal

pub returns : goal.returns
returns c = two_laid _ _ _ _ _ _ c.put_text-a.ensures c.put_decimal-b.ensures c.put_one.ensures
