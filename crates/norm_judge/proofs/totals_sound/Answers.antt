-- `norm_judge::totals_sound` meets its contract.
use mathlib.Core.Path.{ap, ◌∙◌}
use Rattle.norm_room.specs.Room.{is_nowhere}
use Rattle.norm_judge.proofs.Sums.{none_nowhere}
use Rattle.norm_judge.proofs.totals_sound.Goals as goal

pub returns : goal.returns
returns c = none_nowhere _ _ c.is_none.ensures ∙ ap is_nowhere c.judge_totals.ensures
