-- `part_place::sums_empty` meets its contract: the tally, then the sums and the right sides, each 0.
use mathlib.Core.Path.{sym, ◌∙◌}
use Rattle.take_state.specs.State.{state_of}
use Rattle.part_place.proofs.Heads.{matrix_so, sides_so, empty_yes, empty_no, empty_not}
use Rattle.part_place.proofs.sums_empty.Goals as goal

pub returns-then-is_none : goal.returns-then-is_none
returns-then-is_none c =
    let a = c.args in
    empty_yes a.parameters (state_of a.matrix.now a.rights.now a.t) (c.well_formed.1.0.1.1.1.0.1.0.1) (sym c.tally_sound.ensures ∙ c.if-not-tally_sound.false)
    (sym (matrix_so _ _ _ c.first_unsound.result _ c.first_unsound.ensures c.is_none.ensures) ∙ c.if-is_none.true)
    (sides_so _ _ _ _ c.first_broken_side.result _ c.first_broken_side.ensures c.is_none-then-is_none.ensures)

pub returns-else-is_none : goal.returns-else-is_none
returns-else-is_none c =
    let a = c.args in
    c.if-is_none.false
    ∙ empty_no a.parameters (state_of a.matrix.now a.rights.now a.t) (c.well_formed.1.0.1.1.1.0.1.0.1) (sym c.tally_sound.ensures ∙ c.if-not-tally_sound.false)
    (sym (matrix_so _ _ _ c.first_unsound.result _ c.first_unsound.ensures c.is_none.ensures) ∙ c.if-is_none.false)

pub returns-then-not-tally_sound : goal.returns-then-not-tally_sound
returns-then-not-tally_sound c =
    let a = c.args in
    empty_not a.parameters (state_of a.matrix.now a.rights.now a.t) (c.well_formed.1.0.1.1.1.0.1.0.1) (sym c.tally_sound.ensures ∙ c.if-not-tally_sound.true)
