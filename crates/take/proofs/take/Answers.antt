-- `take::take` meets its contract: the state judged, then the record taken.
use Rattle.std.proofs.Common.{rules, ◌≡◌, sym, ap, ◌∙◌, Err}
use Rattle.take_state.specs.State.{state_of}
use Rattle.refusal.specs.First.{answered, value_or, verdict_of}
use Rattle.refusal.specs.Told.{told}
use Rattle.refusal.proofs.Firsts.{answered_by}
use Rattle.take_state.proofs.Rooms.{accepted, stopped}
use Rattle.take.proofs.Answers.{sound_answer, sound_step, refused_answer, refused_step}
use Rattle.take.proofs.take.Goals as goal

pub take_sound-requires : goal.take_sound-requires
take_sound-requires c = accepted c.judge_state.ensures c.in_ok-judge_state.was

pub returns-in_err-judge_state : goal.returns-in_err-judge_state
unfolding verdict_of value_or
returns-in_err-judge_state c =
    let a = c.args in
    let s = state_of a.matrix.now a.rights.now a.t in
    let e : c.from_residual.result ≡ Err c.in_err-judge_state.field-0.0 = search rules in
    let k = stopped c.judge_state.ensures c.in_err-judge_state.was in record {
      answer_value = ap (λ v. verdict_of (told v)) e ∙ answered_by _ tt _ (refused_answer a.h a.bytes.now s _ k);
      state = ap (λ v. state_of a.matrix.now a.rights.now (value_or a.t (told v))) e ∙ sym (refused_step a.h a.bytes.now s _ k);
    }

pub returns : goal.returns
returns c =
    let a = c.args in
    let s = state_of a.matrix.now a.rights.now a.t in
    let e = accepted c.judge_state.ensures c.in_ok-judge_state.was in record {
      answer_value = c.take_sound.ensures.answer_value ∙ ap (λ k. answered k tt) (sym (sound_answer a.h a.bytes.now s e));
      state = c.take_sound.ensures.state ∙ sym (sound_step a.h a.bytes.now s e);
    }
