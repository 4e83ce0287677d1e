-- `list_lines::put_one` meets its contract, piece by piece.
use Rattle.list_lines.proofs.Laws.{one_laid}
use Rattle.list_lines.proofs.put_one.Goals as goal

pub returns : goal.returns
returns c = one_laid _ _ _ _ c.put_text-a.ensures c.put_decimal-b.ensures c.put_text.ensures
