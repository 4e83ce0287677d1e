-- `take_fit::residual_of` meets its contract.
use Rattle.std.proofs.Common.{rules, ◌≡◌, sym, ap, ◌∙◌, Err}
use Rattle.refusal.specs.Told.{told}
use Rattle.unit_measure.specs.Measures.{told_measurement}
use Rattle.take_fit.proofs.Steps.{measured_residual, measured_none}
use Rattle.take_fit.proofs.residual_of.Goals as goal

pub returns : goal.returns
returns c = c.residual.ensures ∙ measured_residual _ _ _ _ (sym (ap told_measurement c.in_ok-measured.was) ∙ c.measured.ensures)

pub returns-in_err-measured : goal.returns-in_err-measured
returns-in_err-measured c =
    let e : c.from_residual.result ≡ Err c.in_err-measured.field-0.0 = search rules in
    ap told e ∙ measured_none _ _ _ _ (sym (ap told_measurement c.in_err-measured.was) ∙ c.measured.ensures)
