-- `part_place::parameters_in` meets its contract.
use mathlib.Core.Path.{sym, ◌∙◌}
use Rattle.part_place.proofs.Heads.{parameters_so, parameters_none}
use Rattle.part_place.proofs.parameters_in.Goals as goal

pub returns-then-is_ok : goal.returns-then-is_ok
returns-then-is_ok c =
    c.unwrap_or.ensures ∙ parameters_so _ c.read_settings.result c.read_count.result c.read_settings.ensures c.read_count.ensures (sym c.is_ok.ensures.value ∙ c.if-is_ok.true)

pub returns-else-is_ok : goal.returns-else-is_ok
returns-else-is_ok c = parameters_none _ c.read_settings.result c.read_settings.ensures (sym c.is_ok.ensures.value ∙ c.if-is_ok.false)
