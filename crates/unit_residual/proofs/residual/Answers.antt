-- `unit_residual::residual` meets its contract.
use mathlib.Core.Path.{ap, ◌∙◌}
use Rattle.unit_residual.specs.Residuals.{residual_by, residual_of}
use Rattle.unit_types.proofs.Rows.{narrow_row}
use Rattle.unit_residual.proofs.residual.Goals as goal

pub residual_by-requires : goal.residual_by-requires
residual_by-requires c = narrow_row _ c.table_row.ensures

pub returns : goal.returns
unfolding residual_of
returns c =
    let m = c.parts_of-r in
    c.residual_by.ensures ∙ ap (λ r. residual_by r m.result.observed m.result.computed) c.table_row.ensures
    ∙ ap residual_of m.ensures
