-- `norm_room::is_roomy` meets its contract.
use mathlib.Core.Path.{sym, ◌∙◌}
use Rattle.num_whole.proofs.Cases.{holds, fails}
use Rattle.norm_room.specs.Room.{roomy_for}
use Rattle.norm_room.proofs.is_roomy.Goals as goal

pub returns-then-heads_roomy : goal.returns-then-heads_roomy
unfolding roomy_for
returns-then-heads_roomy c = holds _ _ (sym c.heads_roomy.ensures ∙ c.if-heads_roomy.true) c.sums_roomy.ensures

pub returns-else-heads_roomy : goal.returns-else-heads_roomy
unfolding roomy_for
returns-else-heads_roomy c = c.if-heads_roomy.false ∙ fails _ _ (sym c.heads_roomy.ensures ∙ c.if-heads_roomy.false)
