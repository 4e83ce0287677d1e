-- `wheloruka::whl_take_run` meets its contract: 20, taken, or refused with everything kept.
use mathlib.Core.Path.{sym, ap₂, ◌∙◌}
use lib.ListN.{length}
use Rattle.refusal.specs.First.{answered}
use Rattle.take_state.specs.State.{state_of}
use Rattle.take_laws.specs.Taking.{run_number, run_state, run_answers}
use Rattle.take.proofs.Answers.{state_left}
use Rattle.wheloruka.proofs.Calls.{short, gives, sums_kept, answers_short, answers_whole}
use Rattle.wheloruka.proofs.whl_take_run.Goals as goal

pub returns-then-has_both : goal.returns-then-has_both
returns-then-has_both c =
    let a = c.args in
    let h = c.heading_in-h.ensures in
    let t = c.tally_in-t.ensures in
    let whole = sym c.has_both.ensures ∙ c.if-has_both.true in
    let told = c.take_run-taken.ensures.answer_value ∙ ap₂ (λ h t. answered (run_number h a.run.now (length a.answers.now) (state_of a.matrix.now a.rights.now t)) tt) h t in
    let left = c.take_run-taken.ensures.state ∙ ap₂ (λ h t. run_state h a.run.now (length a.answers.now) (state_of a.matrix.now a.rights.now t)) h t in
    let answers = answers_whole _ _ _ _ whole _ (c.take_run-taken.ensures.told ∙ ap₂ (λ h t. run_answers h a.run.now a.answers.now (state_of a.matrix.now a.rights.now t)) h t) in
    let d = gives _ _ _ _ whole _ _ _ (λ some. sums_kept (state_left _ _ _ _ some)) _ told left (c.give_taken.ensures.value, c.give_taken.ensures.left) in record {
      value = d.0;
      left = d.1;
      told = answers;
    }

pub returns-else-has_both : goal.returns-else-has_both
returns-else-has_both c =
    let e = sym c.has_both.ensures ∙ c.if-has_both.false in
    let d = short _ _ _ _ e in record {
      value = d.0;
      left = d.1;
      told = answers_short _ _ _ _ e;
    }
