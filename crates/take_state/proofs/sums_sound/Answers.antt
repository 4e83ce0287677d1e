-- `take_state::sums_sound` meets its contract: the tally, then the sums and the right sides.
use Rattle.std.proofs.Common.{rules, ◌≡◌, ◌≤◌, sym, ◌∙◌}
use Rattle.num_whole.proofs.Cases.{holds, fails}
use Rattle.take_tally.proofs.Rows.{tally_small}
use Rattle.take_state.specs.State.{sums_sound}
use Rattle.take_state.proofs.sums_sound.Goals as goal

pub matrix_sound-requires : goal.matrix_sound-requires
matrix_sound-requires c =
    let few = c.accepted-n.ensures.1 (tally_small c.args.h.stations _ (sym c.tally_sound.ensures ∙ c.if-not-tally_sound.false)) in
    search rules

pub rights_sound-requires : goal.rights_sound-requires
rights_sound-requires c =
    let few = c.accepted-n.ensures.1 (tally_small c.args.h.stations _ (sym c.tally_sound.ensures ∙ c.if-not-tally_sound.false)) in
    search rules

pub returns-then-not-tally_sound : goal.returns-then-not-tally_sound
unfolding sums_sound
returns-then-not-tally_sound c = fails _ _ (sym c.tally_sound.ensures ∙ c.if-not-tally_sound.true)

pub returns-then-matrix_sound : goal.returns-then-matrix_sound
unfolding sums_sound
returns-then-matrix_sound c =
    holds _ _ (sym c.tally_sound.ensures ∙ c.if-not-tally_sound.false)
    (holds _ _ (sym (rw c.accepted-n.ensures.0 at c.matrix_sound.ensures) ∙ c.if-matrix_sound.true) (rw c.accepted-n.ensures.0 at c.rights_sound.ensures))

pub returns-else-matrix_sound : goal.returns-else-matrix_sound
unfolding sums_sound
returns-else-matrix_sound c =
    c.if-matrix_sound.false
    ∙ holds _ _ (sym c.tally_sound.ensures ∙ c.if-not-tally_sound.false)
    (fails _ _ (sym (rw c.accepted-n.ensures.0 at c.matrix_sound.ensures) ∙ c.if-matrix_sound.false))
