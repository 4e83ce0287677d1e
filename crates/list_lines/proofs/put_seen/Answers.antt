-- `list_lines::put_seen` meets its contract.
use mathlib.Core.Path.{refl}
use Rattle.num_whole.proofs.Cases.{yes, no}
use Rattle.decimal.proofs.Laying.{laid_as}
use Rattle.list_lines.specs.Lines.{seen_text, unseen_text}
use Rattle.list_lines.proofs.put_seen.Goals as goal

pub returns-then-seen : goal.returns-then-seen
returns-then-seen c = laid_as _ _ c.put_text.ensures (yes _ seen_text unseen_text c.if-seen.true refl)

pub returns-else-seen : goal.returns-else-seen
returns-else-seen c = laid_as _ _ c.put_text-else-seen.ensures (no _ seen_text unseen_text c.if-seen.false refl)
