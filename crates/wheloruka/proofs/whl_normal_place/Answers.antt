-- `wheloruka::whl_normal_place` meets its contract.
use mathlib.Core.Path.{◌∙◌}
use Rattle.norm_read.specs.Normal.{read_normal}
use Rattle.wheloruka.proofs.Files.{normal_place}
use Rattle.wheloruka.proofs.whl_normal_place.Goals as goal

pub returns : goal.returns
returns c = c.read_place.ensures ∙ normal_place (read_normal _) _ c.read.ensures
