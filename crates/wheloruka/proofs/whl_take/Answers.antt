-- `wheloruka::whl_take` meets its contract: 20, taken, or refused with everything kept.
use mathlib.Core.Path.{sym, ap₂, ◌∙◌}
use Rattle.refusal.specs.First.{answered}
use Rattle.take_state.specs.State.{state_of}
use Rattle.take_laws.specs.Taking.{take_answer, take_step}
use Rattle.wheloruka.proofs.Calls.{short, gives, sums_kept, take_kept}
use Rattle.wheloruka.proofs.whl_take.Goals as goal

pub returns-then-has_both : goal.returns-then-has_both
returns-then-has_both c =
    let a = c.args in
    let h = c.heading_in-h.ensures in
    let t = c.tally_in-t.ensures in
    let whole = sym c.has_both.ensures ∙ c.if-has_both.true in
    let told = c.take.ensures.answer_value ∙ ap₂ (λ h t. answered (take_answer h a.bytes.now (state_of a.matrix.now a.rights.now t)) tt) h t in
    let left = c.take.ensures.state ∙ ap₂ (λ h t. take_step h a.bytes.now (state_of a.matrix.now a.rights.now t)) h t in let got = gives _ _ _ _ whole _ _ _ (λ some. sums_kept (take_kept _ _ _ some)) _ told left (c.give_taken.ensures.value, c.give_taken.ensures.left) in record {
      value = got.0;
      left = got.1;
    }

pub returns-else-has_both : goal.returns-else-has_both
returns-else-has_both c =
    let got = short _ _ _ _ (sym c.has_both.ensures ∙ c.if-has_both.false) in record {
      value = got.0;
      left = got.1;
    }
