-- `part_place::is_empty` meets its contract: the tally and the sums, then the marks.
use mathlib.Core.Path.{sym, ◌∙◌}
use Rattle.num_whole.proofs.Cases.{holds}
use Rattle.take_state.specs.State.{sound_state}
use Rattle.part_place.proofs.Places.{stops}
use Rattle.part_place.proofs.is_empty.Goals as goal

pub returns-then-sums_empty : goal.returns-then-sums_empty
unfolding sound_state
returns-then-sums_empty c = holds _ _ (sym c.sums_empty.ensures ∙ c.if-sums_empty.true) c.marks_sound.ensures

pub returns-else-sums_empty : goal.returns-else-sums_empty
unfolding sound_state
returns-else-sums_empty c = stops _ c.sums_empty.ensures (sym c.sums_empty.ensures ∙ c.if-sums_empty.false)
