-- `take_room::clear` meets its contract: the part is all 0.
use Rattle.std.proofs.Common.{refl, length-take-le}
use Rattle.take_room.specs.Room.{cleared}
use Rattle.take_room.proofs.clear.Goals as goal

pub returns : goal.returns
unfolding cleared
returns c = rw (c.fill.ensures.after (λ y e. e), length-take-le _ _ c.requires) refl
