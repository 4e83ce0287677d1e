-- `take_state::seen` meets its contract: the state and the parameter's number are judged, then its diagonal sum is looked at.
use Rattle.std.proofs.Common.{rules, arith, ◌≡◌, ap, ◌∙◌, Err}
use Rattle.num_whole.specs.Answer.{given}
use Rattle.num_packed.proofs.Places.{tri_next, tri_within}
use Rattle.refusal.proofs.Firsts.{answered_given, answered_by}
use Rattle.refusal.specs.Told.{told}
use Rattle.take_state.specs.State.{seen_in, sight_of}
use Rattle.take_state.proofs.Rooms.{accepted, stopped, state_roomed, parameter_is}
use Rattle.take_state.proofs.seen.Goals as goal

pub is_seen-requires : goal.is_seen-requires
is_seen-requires c =
    let f = parameter_is _ _ _ (accepted c.judge_parameter.ensures c.in_ok-judge_parameter.was) in
    let w = state_roomed _ _ f.0 in
    (omega (arith, f.1, w.sound.few), omega (arith, w.matrix, tri_next c.args.i, tri_within c.args.i _ f.1))

pub returns-in_err-judge_parameter : goal.returns-in_err-judge_parameter
unfolding sight_of
returns-in_err-judge_parameter c =
    let e : c.from_residual.result ≡ Err c.in_err-judge_parameter.field-0.0 = search rules in
    ap told e ∙ answered_by _ _ _ (stopped c.judge_parameter.ensures c.in_err-judge_parameter.was)

pub returns : goal.returns
unfolding sight_of seen_in
returns c = ap given c.is_seen.ensures ∙ answered_given _ _ (accepted c.judge_parameter.ensures c.in_ok-judge_parameter.was)
