-- `take_add::add_at` meets its contract.
use mathlib.Core.Path.{ap, ◌∙◌}
use lib.IntN.{pos}
use lib.ListN.{get_or, set}
use mir.Syntax.{w16, w64}
use mir.ValLaws.{to_z-of_z}
use borrow.Author.Rules.{rules}
use Rattle.take_add.proofs.add_at.Goals as goal

pub returns : goal.returns
returns c =
    let v = get_or c.args.part.now c.args.i (pos 0) in
    ap (λ y. set c.args.part.now c.args.i y)
    (to_z-of_z w64 c.mac-y.result (search rules) ∙ c.mac-y.ensures
    ∙ simp (to_z-of_z w64 v (search rules), to_z-of_z w64 c.args.f c.ranges.f, to_z-of_z w16 (get_or c.args.a.now c.args.i (pos 0)) (search rules)))
