-- `unit_types::is_type` meets its contract.
use Rattle.unit_types.specs.Types.{is_type}
use Rattle.unit_types.proofs.is_type.Goals as goal

pub returns : goal.returns
unfolding is_type
returns c = c.within.ensures
