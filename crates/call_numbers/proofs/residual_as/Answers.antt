-- `call_numbers::residual_as` meets its contract: the residual of the reading, or the refusal of its type.
use Rattle.std.proofs.Common.{rules, ◌≡◌, sym, ap, ◌∙◌, Err}
use Rattle.refusal.specs.Told.{told}
use Rattle.unit_measure.specs.Measures.{told_measurement}
use Rattle.call_numbers.specs.Given.{residual_at, residual_as}
use Rattle.call_numbers.proofs.residual_as.Goals as goal

pub returns : goal.returns
unfolding residual_as residual_at
returns c = c.residual.ensures ∙ ap residual_at (sym (ap told_measurement c.in_ok-measured.was) ∙ c.measured.ensures)

pub returns-in_err-measured : goal.returns-in_err-measured
unfolding residual_as residual_at
returns-in_err-measured c =
    let e : c.from_residual.result ≡ Err c.in_err-measured.field-0.0 = search rules in
    ap told e ∙ ap residual_at (sym (ap told_measurement c.in_err-measured.was) ∙ c.measured.ensures)
