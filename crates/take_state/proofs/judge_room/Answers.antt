-- `take_state::judge_room` meets its contract: 20, then what the heading is refused by.
use mathlib.Core.Path.{sym, ◌∙◌}
use Rattle.take_state.specs.State.{roomy}
use Rattle.take_state.proofs.Rooms.{room_judged, room_short}
use Rattle.take_state.proofs.judge_room.Goals as goal

pub returns-then-is_roomy : goal.returns-then-is_roomy
unfolding roomy
returns-then-is_roomy c = room_judged _ _ _ (sym c.is_roomy.ensures ∙ c.if-is_roomy.true) c.judge.result c.judge.ensures

pub returns-else-is_roomy : goal.returns-else-is_roomy
unfolding roomy
returns-else-is_roomy c = room_short _ _ _ (sym c.is_roomy.ensures ∙ c.if-is_roomy.false)
