-- `call_part::has_rooms` meets its contract.
use mathlib.Core.Path.{sym, ◌∙◌}
use Rattle.num_whole.proofs.Cases.{holds, by_up_to}
use Rattle.part_place.proofs.Places.{stops}
use Rattle.call_part.proofs.has_rooms.Goals as goal

pub returns-then-has_state : goal.returns-then-has_state
returns-then-has_state c = holds _ _ (sym c.has_state.ensures ∙ c.if-has_state.true) (by_up_to 2 _)

pub returns-else-has_state : goal.returns-else-has_state
returns-else-has_state c = stops _ c.has_state.ensures (sym c.has_state.ensures ∙ c.if-has_state.false)
