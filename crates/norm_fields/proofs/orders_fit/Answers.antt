-- `norm_fields::orders_fit` meets its contract.
use native.Mathlib.Omega.{arith}
use mathlib.Core.Path.{sym, ◌∙◌}
use Rattle.num_whole.proofs.Cases.{holds, fails, both_first}
use Rattle.norm_room.specs.Room.{system_in_rooms, fields_fit, orders_fit}
use Rattle.norm_fields.proofs.orders_fit.Goals as goal

pub arcs_ascend-requires : goal.arcs_ascend-requires
unfolding fields_fit system_in_rooms
arcs_ascend-requires c = (omega arith, both_first _ _ c.requires.3)

pub returns-then-arcs_ascend : goal.returns-then-arcs_ascend
unfolding orders_fit system_in_rooms
returns-then-arcs_ascend c = holds _ _ (sym c.arcs_ascend.ensures ∙ c.if-arcs_ascend.true) c.labels_ascend.ensures

pub returns-else-arcs_ascend : goal.returns-else-arcs_ascend
unfolding orders_fit system_in_rooms
returns-else-arcs_ascend c = c.if-arcs_ascend.false ∙ fails _ _ (sym c.arcs_ascend.ensures ∙ c.if-arcs_ascend.false)
