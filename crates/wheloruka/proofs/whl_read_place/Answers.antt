-- `wheloruka::whl_read_place` meets its contract.
use mathlib.Core.Path.{◌∙◌, ap}
use Rattle.call_files.specs.Reading.{refusal_place}
use Rattle.wheloruka.proofs.whl_read_place.Goals as goal

pub returns : goal.returns
returns c = c.read_place.ensures ∙ ap refusal_place c.read.ensures
