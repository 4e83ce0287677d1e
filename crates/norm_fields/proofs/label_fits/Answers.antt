-- `norm_fields::label_fits` meets its contract: a number that no file holds is past its limit.
use borrow.Author.Rules.{rules}
use mathlib.Core.Path.{sym, ap, ◌∙◌}
use Rattle.norm_system.specs.System.{normal_label_ok}
use Rattle.norm_fields.proofs.Fields.{small, bare_ok, not_small}
use Rattle.norm_fields.proofs.label_fits.Goals as goal

pub label_at-requires : goal.label_at-requires
label_at-requires c = (search rules, small _ _ (sym c.is_small.ensures ∙ c.if-is_small.true))

pub returns-then-is_small : goal.returns-then-is_small
returns-then-is_small c = c.label_ok.ensures ∙ ap (normal_label_ok c.args.arcs.now) c.label_at.ensures ∙ bare_ok _ _ _

pub returns-else-is_small : goal.returns-else-is_small
returns-else-is_small c = c.if-is_small.false ∙ not_small _ _ _ c.requires.1 (sym c.is_small.ensures ∙ c.if-is_small.false)
