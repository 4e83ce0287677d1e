-- `take_state::judge_parameter` meets its contract: the state is judged, then the parameter's number.
use Rattle.std.proofs.Common.{rules, arith, ◌≡◌, ap, ◌∙◌, Err}
use Rattle.refusal.specs.Told.{told}
use Rattle.take_state.proofs.Rooms.{accepted, stopped, parameter_judged, parameter_none, parameter_some}
use Rattle.take_state.proofs.judge_parameter.Goals as goal

pub returns-in_err-judge_state : goal.returns-in_err-judge_state
returns-in_err-judge_state c =
    let e : c.from_residual.result ≡ Err c.in_err-judge_state.field-0.0 = search rules in
    ap told e ∙ parameter_judged _ _ _ _ (stopped c.judge_state.ensures c.in_err-judge_state.was)

pub returns-then-i-h : goal.returns-then-i-h
returns-then-i-h c = parameter_some _ _ _ (accepted c.judge_state.ensures c.in_ok-judge_state.was) c.if-i-h.true

pub returns-else-i-h : goal.returns-else-i-h
returns-else-i-h c = parameter_none _ _ _ (accepted c.judge_state.ensures c.in_ok-judge_state.was) (omega arith)
