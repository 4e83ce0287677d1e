-- `unit_convert::unit_of` meets its contract.
use Rattle.std.proofs.Common.{ap, ◌∙◌}
use Rattle.std.proofs.lemmas.Result.{err_from_is_err_and}
use Rattle.num_whole.specs.Answer.{refused}
use Rattle.num_whole.proofs.Cases.{yes, no}
use Rattle.unit_nearest.specs.Doubles.{unit_within}
use Rattle.unit_types.specs.declared.TypeRow.{TypeRow}
use Rattle.unit_types.proofs.Rows.{narrow_row}
use Rattle.unit_convert.specs.Units.{turned, unit_of}
use Rattle.unit_convert.proofs.Refusals.{row_found, row_none}
use Rattle.unit_convert.proofs.unit_of.Goals as goal

pub unit_by-requires : goal.unit_by-requires
unit_by-requires c = narrow_row _ (row_found _ _ c.in_ok-row.ensures).1

pub returns-in_err-row : goal.returns-in_err-row
unfolding unit_of
returns-in_err-row c =
    let p = err_from_is_err_and c.from_residual.result c.from_residual.ensures.1 in
    let k = row_none _ c.in_err-row.field-0.0 c.in_err-row.ensures in
    rw (p.1, p.2) (no _ _ _ k.0 (ap refused k.1))

pub returns : goal.returns
unfolding unit_of
returns c =
    let x = c.args.x in
    let k = row_found _ _ c.in_ok-row.ensures in
    yes _ _ _ k.0 (c.unit_by.ensures ∙ ap (λ (r : TypeRow). turned r (unit_within r.k r.low r.high x)) k.1)
