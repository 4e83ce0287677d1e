-- `wheloruka::whl_judge` meets its contract.
use mathlib.Core.Path.{sym, ap, ap₂, ◌∙◌}
use Rattle.refusal.specs.First.{answered}
use Rattle.refusal.specs.Told.{told}
use Rattle.take_state.specs.State.{state_of, state_number}
use Rattle.wheloruka.proofs.Calls.{number_short, number_done, number_refused}
use Rattle.wheloruka.proofs.whl_judge.Goals as goal

pub returns-in-Ok : goal.returns-in-Ok
returns-in-Ok c =
    let a = c.args in
    number_done _ _ _ (sym c.has_both.ensures ∙ c.if-has_both.true)
    (sym (ap told c.in-Ok.is) ∙ c.judge_state.ensures ∙ ap₂ (λ h t. answered (state_number h (state_of a.matrix.now a.rights.now t)) tt) c.heading_in-h.ensures c.tally_in-t.ensures)

pub returns-in-Err : goal.returns-in-Err
returns-in-Err c =
    let a = c.args in
    number_refused _ _ _ (sym c.has_both.ensures ∙ c.if-has_both.true) c.in-Err.e _
    (sym (ap told c.in-Err.is) ∙ c.judge_state.ensures ∙ ap₂ (λ h t. answered (state_number h (state_of a.matrix.now a.rights.now t)) tt) c.heading_in-h.ensures c.tally_in-t.ensures) c.number.ensures

pub returns-else-has_both : goal.returns-else-has_both
returns-else-has_both c = number_short _ _ _ (sym c.has_both.ensures ∙ c.if-has_both.false)
