-- `norm_add::add_at` meets its contract.
use mathlib.Core.Path.{ap, ap₂, ◌∙◌}
use lib.IntN.{pos, ◌+ℤ◌}
use lib.ListN.{get_or, set}
use mir.Syntax.{w64}
use mir.ValLaws.{to_z-of_z}
use borrow.Author.Rules.{rules}
use Rattle.norm_add.proofs.add_at.Goals as goal

pub returns : goal.returns
returns c =
    let v = get_or c.args.part.now c.args.k (pos 0) in
    ap (λ y. set c.args.part.now c.args.k y)
    (to_z-of_z w64 c.sum_of.result (search rules) ∙ c.sum_of.ensures
    ∙ ap₂ (λ a b. a +ℤ b) (to_z-of_z w64 v (search rules)) (to_z-of_z w64 c.args.x c.ranges.x))
