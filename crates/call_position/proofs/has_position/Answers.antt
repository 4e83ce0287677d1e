-- `call_position::has_position` meets its contract.
use Rattle.num_whole.proofs.Cases.{by_up_to}
use Rattle.call_position.specs.Position.{has_position}
use Rattle.call_position.proofs.has_position.Goals as goal

pub returns : goal.returns
unfolding has_position
returns c = by_up_to _ _
