-- `list_lines::put_label` meets its contract, piece by piece.
use Rattle.list_lines.proofs.Laws.{label_laid}
use Rattle.list_lines.proofs.put_label.Goals as goal

pub returns : goal.returns
returns c = label_laid _ _ _ (rw c.from.ensures at c.put_decimal-a.ensures) c.put_text-b.ensures (rw c.from-2.ensures at c.put_decimal.ensures)
