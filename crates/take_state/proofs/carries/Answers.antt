-- `take_state::carries` meets its contract: the state, the parameter's number and the station's row are judged, then its mark is looked at.
use Rattle.std.proofs.Common.{rules, arith, ◌≡◌, ap, ◌∙◌, Err}
use Rattle.num_whole.specs.Answer.{given}
use Rattle.refusal.specs.Told.{told}
use Rattle.take_state.proofs.Rooms.{accepted, stopped, parameter_few, parameter_seats, row_judged, row_none, row_some}
use Rattle.take_state.proofs.carries.Goals as goal

pub offset_bounds-t-i : goal.offset_bounds-t-i
offset_bounds-t-i c = let few = parameter_few _ _ _ (accepted c.judge_parameter.ensures c.in_ok-judge_parameter.was) in search rules

pub bounds-t-i : goal.bounds-t-i
bounds-t-i c = parameter_few _ _ _ (accepted c.judge_parameter.ensures c.in_ok-judge_parameter.was)

pub overflow_cast-k : goal.overflow_cast-k
overflow_cast-k c = let seats = parameter_seats _ _ _ (accepted c.judge_parameter.ensures c.in_ok-judge_parameter.was) in search rules

pub has-requires : goal.has-requires
has-requires c = omega (arith, parameter_seats _ _ _ (accepted c.judge_parameter.ensures c.in_ok-judge_parameter.was))

pub returns-in_err-judge_parameter : goal.returns-in_err-judge_parameter
returns-in_err-judge_parameter c =
    let e : c.from_residual.result ≡ Err c.in_err-judge_parameter.field-0.0 = search rules in
    ap told e ∙ row_judged _ _ _ _ _ (stopped c.judge_parameter.ensures c.in_err-judge_parameter.was)

pub returns-then-h-k : goal.returns-then-h-k
returns-then-h-k c = row_none _ _ _ _ (accepted c.judge_parameter.ensures c.in_ok-judge_parameter.was) (omega arith)

pub returns : goal.returns
returns c =
    ap given c.has.ensures
    ∙ row_some _ _ _ _ (accepted c.judge_parameter.ensures c.in_ok-judge_parameter.was) (omega arith)
