-- `take_state::is_sound` meets its contract: the tally and the sums, then the marks.
use Rattle.std.proofs.Common.{sym, ◌∙◌}
use Rattle.num_whole.proofs.Cases.{holds, fails}
use Rattle.take_state.specs.State.{sound_state}
use Rattle.take_state.proofs.is_sound.Goals as goal

pub returns-then-sums_sound : goal.returns-then-sums_sound
unfolding sound_state
returns-then-sums_sound c = holds _ _ (sym c.sums_sound.ensures ∙ c.if-sums_sound.true) c.marks_sound.ensures

pub returns-else-sums_sound : goal.returns-else-sums_sound
unfolding sound_state
returns-else-sums_sound c = c.if-sums_sound.false ∙ fails _ _ (sym c.sums_sound.ensures ∙ c.if-sums_sound.false)
