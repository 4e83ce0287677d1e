-- `take_marks::is_among` meets its contract.
use Rattle.num_whole.proofs.Cases.{by_same}
use Rattle.take_marks.specs.Parts.{among_marks}
use Rattle.take_marks.proofs.is_among.Goals as goal

pub returns : goal.returns
unfolding among_marks
returns c = by_same _ _
