-- `take_rules::in_window` meets its contract.
use mathlib.Core.Path.{sym, ap, ◌∙◌}
use mir.Syntax.{w64}
use mir.ValLaws.{to_z-of_z}
use Rattle.take_rules.specs.Rules.{in_window}
use Rattle.take_rules.proofs.in_window.Goals as goal

pub returns-then-well_inside : goal.returns-then-well_inside
returns-then-well_inside c =
    c.if-well_inside.true ∙ sym (c.well_inside.ensures c.if-well_inside.true) ∙ ap (in_window c.args.first c.args.days) (to_z-of_z w64 c.args.t c.ranges.t)

pub returns-else-well_inside : goal.returns-else-well_inside
returns-else-well_inside c = c.between_ends.ensures ∙ ap (in_window c.args.first c.args.days) (to_z-of_z w64 c.args.t c.ranges.t)
