-- `call_heading::has_heading` meets its contract.
use Rattle.num_whole.proofs.Cases.{by_up_to}
use Rattle.call_heading.specs.Lent.{has_heading}
use Rattle.call_heading.proofs.has_heading.Goals as goal

pub returns : goal.returns
unfolding has_heading
returns c = rw (c.held-2.ensures, c.held.ensures) (by_up_to _ _)
