-- `call_part::put_back` meets its contract.
use mathlib.Core.Path.{refl, sym, ◌∙◌}
use Rattle.num_whole.proofs.Cases.{yes, no}
use Rattle.call_part.proofs.put_back.Goals as goal

pub returns-then-changes : goal.returns-then-changes
returns-then-changes c = yes _ _ _ (sym c.changes.ensures ∙ c.if-changes.true) c.put_position.ensures

pub returns-else-changes : goal.returns-else-changes
returns-else-changes c = no _ _ _ (sym c.changes.ensures ∙ c.if-changes.false) refl
