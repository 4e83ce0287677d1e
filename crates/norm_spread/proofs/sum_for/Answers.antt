-- `norm_spread::sum_for` meets its contract.
use mathlib.Core.Path.{refl, ◌∙◌}
use mir.Syntax.{w64}
use mir.ValLaws.{to_z-of_z}
use Rattle.num_whole.proofs.Cases.{yes, no, is_same, not_same}
use Rattle.norm_spread.specs.Spread.{unless_two}
use Rattle.norm_spread.proofs.sum_for.Goals as goal

pub returns-then-field-eq2 : goal.returns-then-field-eq2
unfolding unless_two
returns-then-field-eq2 c = yes _ _ _ (is_same _ _ c.if-field-eq2.true) refl

pub returns-else-field-eq2 : goal.returns-else-field-eq2
unfolding unless_two
returns-else-field-eq2 c =
    no _ _ _ (not_same _ _ c.if-field-eq2.false) (to_z-of_z w64 c.read_i64.result (record { sfits = c.read_i64.type_inv }) ∙ c.read_i64.ensures)
