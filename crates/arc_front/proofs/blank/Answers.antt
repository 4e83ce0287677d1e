-- `arc_front::blank` meets its contract: every field is 0.
use Rattle.arc_front.proofs.blank.Goals as goal

pub returns : goal.returns
returns c = cc
