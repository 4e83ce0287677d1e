-- `norm_room::heads_roomy` meets its contract.
use Rattle.num_whole.proofs.Cases.{by_up_to}
use Rattle.norm_room.specs.Room.{heads_roomy}
use Rattle.norm_room.proofs.heads_roomy.Goals as goal

pub returns : goal.returns
unfolding heads_roomy
returns c = by_up_to _ _
