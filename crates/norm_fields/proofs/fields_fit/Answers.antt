-- `norm_fields::fields_fit` meets its contract: the arcs, then the labels with the arcs that are listed.
use native.Mathlib.Omega.{arith}
use mathlib.Core.Path.{sym, ap, ◌∙◌}
use lib.Seq.{length-take-le}
use Rattle.num_whole.specs.Lists.{all}
use Rattle.num_whole.proofs.Cases.{holds, fails}
use Rattle.norm_system.specs.System.{arc_ok, normal_label_ok}
use Rattle.byte_words.specs.Stands.{stands}
use Rattle.norm_room.specs.Room.{label_in_heads, system_in_rooms, fields_fit}
use Rattle.norm_fields.proofs.fields_fit.Goals as goal

pub arcs_of-listed-requires : goal.arcs_of-listed-requires
arcs_of-listed-requires c = (omega arith, omega arith, sym c.arcs_fit.ensures ∙ c.if-arcs_fit.true)

pub slice_bounds-labels_fit-end : goal.slice_bounds-labels_fit-end
slice_bounds-labels_fit-end c = sym (length-take-le _ _ (omega (arith, c.arcs_of-listed.ensures.1)))

pub labels_fit-requires : goal.labels_fit-requires
labels_fit-requires c = (omega arith, omega arith, ap (all arc_ok) c.arcs_of-listed.ensures.0 ∙ sym c.arcs_fit.ensures ∙ c.if-arcs_fit.true)

pub returns-then-arcs_fit : goal.returns-then-arcs_fit
unfolding fields_fit system_in_rooms
returns-then-arcs_fit c =
    let start = c.args in
    holds _ _ (sym c.arcs_fit.ensures ∙ c.if-arcs_fit.true)
    (c.labels_fit.ensures ∙ ap (λ l. all (normal_label_ok l) (stands (label_in_heads start.heads.now) 5 start.parameters start.arcs)) c.arcs_of-listed.ensures.0)

pub returns-else-arcs_fit : goal.returns-else-arcs_fit
unfolding fields_fit system_in_rooms
returns-else-arcs_fit c = fails _ _ (sym c.arcs_fit.ensures ∙ c.if-arcs_fit.false)
