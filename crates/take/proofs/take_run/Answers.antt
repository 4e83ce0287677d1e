-- `take::take_run` meets its contract: the run judged, then taken.
use Rattle.std.proofs.Common.{rules, ◌≡◌, sym, ap, ◌∙◌, length, Err}
use Rattle.take_state.specs.State.{state_of}
use Rattle.refusal.proofs.Apart.{not_none}
use Rattle.refusal.proofs.Firsts.{answered_given, answered_by}
use Rattle.refusal.specs.First.{value_or, verdict_of}
use Rattle.refusal.specs.Told.{told}
use Rattle.take_state.proofs.Rooms.{accepted, stopped}
use Rattle.take.proofs.Answers.{state_left, answers_left_lem}
use Rattle.take.proofs.take_run.Goals as goal

pub run_sound-requires : goal.run_sound-requires
run_sound-requires c = accepted c.judge_run.ensures c.in_ok-judge_run.was

pub returns-in_err-judge_run : goal.returns-in_err-judge_run
unfolding verdict_of value_or
returns-in_err-judge_run c =
    let a = c.args in
    let s = state_of a.matrix.now a.rights.now a.t in
    let e : c.from_residual.result ≡ Err c.in_err-judge_run.field-0.0 = search rules in
    let k = stopped c.judge_run.ensures c.in_err-judge_run.was in record {
      answer_value = ap (λ v. verdict_of (told v)) e ∙ answered_by _ tt _ k;
      state = ap (λ v. state_of a.matrix.now a.rights.now (value_or a.t (told v))) e ∙ sym (state_left a.h a.run.now (length a.answers.now) s (λ z. not_none _ (sym k ∙ z)));
      told = sym (answers_left_lem a.h a.run.now a.answers.now s (λ z. not_none _ (sym k ∙ z)));
    }

pub returns : goal.returns
unfolding verdict_of value_or
returns c =
    record {
      answer_value = answered_given _ tt (accepted c.judge_run.ensures c.in_ok-judge_run.was);
      state = c.run_sound.ensures.state;
      told = c.run_sound.ensures.told;
    }
