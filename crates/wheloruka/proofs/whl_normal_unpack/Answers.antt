-- `wheloruka::whl_normal_unpack` meets its contract.
use mathlib.Core.Path.{◌∙◌}
use Rattle.norm_unpack.specs.Unpack.{unpack_normal}
use Rattle.wheloruka.proofs.Writes.{judged_number_lem}
use Rattle.wheloruka.proofs.whl_normal_unpack.Goals as goal

pub returns : goal.returns
returns c = record {
  value = c.read_number.ensures ∙ judged_number_lem (unpack_normal _ _ _ _) _ c.unpack.ensures.result_value;
  heads = c.unpack.ensures.heads_after;
  matrix = c.unpack.ensures.matrix_after;
  rights = c.unpack.ensures.rights_after;
}
