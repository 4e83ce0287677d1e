-- `part_place::is_fair` meets its contract.
use mathlib.Core.Path.{sym, ◌∙◌}
use Rattle.part_place.proofs.Looks.{fair_over, fair_on, fair_not}
use Rattle.part_place.proofs.is_fair.Goals as goal

pub returns-then-p : goal.returns-then-p
returns-then-p c =
    fair_over c.args.p c.args.old (c.well_formed.0.1.1.0.1.0.1) c.requires (sym c.is_tidy.ensures ∙ c.if-not-is_tidy.false) c.if-p.true c.is_ended.ensures

pub returns-else-p : goal.returns-else-p
returns-else-p c =
    fair_on c.args.p c.args.old (c.well_formed.0.1.1.0.1.0.1) c.requires (sym c.is_tidy.ensures ∙ c.if-not-is_tidy.false) c.if-p.false c.is_placed.ensures

pub returns-then-not-is_tidy : goal.returns-then-not-is_tidy
returns-then-not-is_tidy c = fair_not _ (sym c.is_tidy.ensures ∙ c.if-not-is_tidy.true)
