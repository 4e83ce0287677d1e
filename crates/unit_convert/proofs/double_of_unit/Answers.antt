-- `unit_convert::double_of_unit` meets its contract.
use Rattle.std.proofs.Common.{ap, ◌∙◌}
use mathlib.Core.Path.{ap₂}
use lib.IntN.{ℤ}
use mir.Facts.{to_z-of_z}
use Rattle.std.proofs.lemmas.Result.{err_from_is_err_and}
use Rattle.num_whole.specs.Answer.{given, refused}
use Rattle.num_whole.specs.Tests.{pick}
use Rattle.num_whole.proofs.Cases.{yes, no}
use Rattle.unit_nearest.specs.Doubles.{fits_in, quotient}
use Rattle.unit_types.specs.declared.TypeRow.{TypeRow}
use Rattle.unit_types.proofs.Rows.{narrow_row}
use Rattle.unit_turn.specs.Turning.{top_of}
use Rattle.unit_convert.specs.Units.{double_of}
use Rattle.unit_convert.proofs.Refusals.{row_found, row_none}
use Rattle.unit_convert.proofs.double_of_unit.Goals as goal

pub double_by-requires : goal.double_by-requires
double_by-requires c = narrow_row _ (row_found _ _ c.in_ok-row.ensures).1

pub returns-in_err-row : goal.returns-in_err-row
unfolding double_of
returns-in_err-row c =
    let p = err_from_is_err_and c.from_residual.result c.from_residual.ensures.1 in
    let k = row_none _ c.in_err-row.field-0.0 c.in_err-row.ensures in
    rw (p.1, p.2) (no _ _ _ k.0 (ap refused k.1))

pub returns : goal.returns
unfolding double_of
returns c =
    let k = row_found _ _ c.in_ok-row.ensures in
    yes _ _ _ k.0 (c.double_by.ensures
    ∙ ap₂ (λ (r : TypeRow) (z : ℤ). pick (fits_in r.low (top_of r) z) (given (quotient r.k z)) (refused 16)) k.1 (to_z-of_z c.ranges.q))
