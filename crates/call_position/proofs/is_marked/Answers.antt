-- `call_position::is_marked` meets its contract.
use mathlib.Core.Path.{ap, ◌∙◌}
use Rattle.num_whole.specs.Tests.{up_to}
use Rattle.num_whole.proofs.Cases.{by_up_to}
use Rattle.call_position.specs.Position.{marked}
use Rattle.call_position.proofs.is_marked.Goals as goal

pub returns : goal.returns
unfolding marked
returns c = by_up_to _ 1 ∙ ap (λ k. up_to k 1) c.read_u64.ensures
