-- `call_position::position_in` meets its contract.
use mathlib.Core.Path.{ap, ◌∙◌}
use Rattle.num_whole.specs.Tests.{less}
use Rattle.num_whole.proofs.Cases.{by_less}
use Rattle.call_position.specs.Position.{position_in}
use Rattle.call_position.proofs.position_in.Goals as goal

pub returns : goal.returns
unfolding position_in
returns c =
    let over = by_less 0 _ ∙ ap (less 0) c.read_u64-word.ensures in
    λ i. record { kept = c.kept_in-kept.ensures i; length = c.read_u64-length.ensures i; taken = c.read_u64-taken.ensures i; over = over i }
