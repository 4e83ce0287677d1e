-- `take_state::carried_by` meets its contract: the state and the parameter's number are judged, then its marks are counted.
use Rattle.std.proofs.Common.{rules, ap, ◌∙◌}
use Rattle.num_whole.specs.Answer.{given}
use Rattle.refusal.proofs.Firsts.{answered_given, answered_by}
use Rattle.take_state.specs.State.{carriers_of}
use Rattle.take_state.proofs.Rooms.{accepted, stopped, parameter_few}
use Rattle.take_state.proofs.carried_by.Goals as goal

pub offset_bounds-t-parameter : goal.offset_bounds-t-parameter
offset_bounds-t-parameter c = let few = parameter_few _ _ _ (accepted c.judge_parameter.ensures c.in-Ok.is) in search rules

pub bounds-t-parameter : goal.bounds-t-parameter
bounds-t-parameter c = parameter_few _ _ _ (accepted c.judge_parameter.ensures c.in-Ok.is)

pub returns-in-Ok : goal.returns-in-Ok
unfolding carriers_of
returns-in-Ok c = ap given c.count.ensures.0 ∙ answered_given _ _ (accepted c.judge_parameter.ensures c.in-Ok.is)

pub returns-in-Err : goal.returns-in-Err
unfolding carriers_of
returns-in-Err c = answered_by _ _ _ (stopped c.judge_parameter.ensures c.in-Err.is)
