-- `num_packed::is_within` meets its contract.
use mathlib.Core.Path.{ap, ◌∙◌}
use mathlib.Core.Bool.{not}
use lib.IntN.{pos}
use lib.ListN.{get_or}
use mir.Syntax.{w64}
use mir.ValLaws.{to_z-of_z}
use borrow.Author.Rules.{rules}
use Rattle.num_packed.specs.Plain.{within_at}
use Rattle.num_packed.proofs.Tests.{past_is, not_past}
use Rattle.num_packed.proofs.is_within.Goals as goal

pub returns : goal.returns
unfolding within_at
returns c =
    ap not (past_is _ _ _ _ _ (to_z-of_z w64 c.args.bound c.ranges.bound) (to_z-of_z w64 (get_or c.args.s.now c.args.k (pos 0)) (search rules)) c.is_past.ensures) ∙ not_past _ _
