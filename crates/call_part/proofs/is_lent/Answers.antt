-- `call_part::is_lent` meets its contract.
use mathlib.Core.Path.{sym, ◌∙◌}
use Rattle.num_whole.proofs.Cases.{holds, by_up_to}
use Rattle.part_place.proofs.Places.{stops}
use Rattle.call_part.proofs.is_lent.Goals as goal

pub returns-then-has_position : goal.returns-then-has_position
returns-then-has_position c = holds _ _ (sym c.has_position.ensures ∙ c.if-has_position.true) (by_up_to 2 _)

pub returns-else-has_position : goal.returns-else-has_position
returns-else-has_position c = stops _ c.has_position.ensures (sym c.has_position.ensures ∙ c.if-has_position.false)
