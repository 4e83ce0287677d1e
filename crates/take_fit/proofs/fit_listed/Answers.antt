-- `take_fit::fit_listed` meets its contract: one step for each test.
use Rattle.std.proofs.Common.{rules, ◌≡◌, sym, ap, ◌∙◌, Err}
use Rattle.refusal.specs.Told.{told}
use mir.Syntax.{w32, w64}
use mir.ValLaws.{to_z-of_z}
use Rattle.num_whole.specs.Answer.{given}
use Rattle.num_whole.proofs.Cases.{between_true}
use Rattle.unit_types.specs.Types.{is_type}
use Rattle.take_fit.proofs.Steps.{listed_sigma, listed_time, listed_residual, listed_fit}
use Rattle.take_fit.proofs.fit_listed.Goals as goal

pub overflow_sub-result : goal.overflow_sub-result
unfolding is_type
overflow_sub-result c = (between_true _ _ _ c.requires.1).0

pub returns-then-not-sigma_ok : goal.returns-then-not-sigma_ok
returns-then-not-sigma_ok c f b s l g k e =
    listed_sigma _ _ _ _ _ c.requires.1 f b s l g k e (sym c.sigma_ok.ensures ∙ c.if-not-sigma_ok.true)

pub returns-in_err-time : goal.returns-in_err-time
returns-in_err-time c f b s l g k e =
    let stopped : c.from_residual.result ≡ Err c.in_err-time.field-0.0 = search rules in
    ap told stopped
    ∙ listed_time _ _ _ _ _ c.requires.1 f b s l g k e (sym c.sigma_ok.ensures ∙ c.if-not-sigma_ok.false) _
    (rw (to_z-of_z w32 c.args.correction c.ranges.correction) at (sym (ap told c.in_err-time.was) ∙ c.time_of.ensures))

pub returns-in_err-residual : goal.returns-in_err-residual
returns-in_err-residual c f b s l g k e =
    let stopped : c.from_residual-in_err-residual.result ≡ Err c.in_err-residual.field-0.0 = search rules in
    ap told stopped
    ∙ listed_residual _ _ _ _ _ c.requires.1 f b s l g k e (sym c.sigma_ok.ensures ∙ c.if-not-sigma_ok.false) _
    (rw (to_z-of_z w32 c.args.correction c.ranges.correction) at (sym (ap told c.in_ok-time.was) ∙ c.time_of.ensures))
    _ (sym (ap told c.in_err-residual.was) ∙ c.residual_of.ensures)

pub returns : goal.returns
returns c f b s l g k e =
    listed_fit _ _ _ _ _ c.requires.1 f b s l g k e (sym c.sigma_ok.ensures ∙ c.if-not-sigma_ok.false) _
    (rw (to_z-of_z w32 c.args.correction c.ranges.correction) at (sym (ap told c.in_ok-time.was) ∙ c.time_of.ensures))
    _ (ap given (to_z-of_z w64 _ (search rules)) ∙ sym (ap told c.in_ok-residual.was) ∙ c.residual_of.ensures)
