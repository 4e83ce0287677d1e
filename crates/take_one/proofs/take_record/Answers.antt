-- `take_one::take_record` meets its contract: the tally is copied, and the record taken into the copy.
use Rattle.std.proofs.Common.{rules, ◌≡◌, sym, ap, ◌∙◌, length, Err}
use Rattle.refusal.specs.First.{value_or, verdict_of}
use Rattle.refusal.specs.Told.{told}
use Rattle.refusal.proofs.Apart.{not_none}
use Rattle.take_state.specs.State.{state_of}
use Rattle.take_state.proofs.Rooms.{stopped}
use Rattle.take_laws.specs.Taking.{frame}
use Rattle.take_laws.proofs.Kept.{step_leaves}
use Rattle.take_one.proofs.take_record.Goals as goal

pub returns-in_err-take_in : goal.returns-in_err-take_in
unfolding verdict_of value_or
returns-in_err-take_in c =
    let a = c.args in
    let e : c.from_residual.result ≡ Err c.in_err-take_in.field-0.0 = search rules in
    let f = frame a.settings (length a.rights.now) a.numbers.now a.corrections.now in
    let s = state_of a.matrix.now a.rights.now a.t in
    let n = stopped c.take_in.ensures.answer_value c.in_err-take_in.was in
    let leaves = step_leaves f a.bytes.now s (λ z. not_none _ (sym n ∙ z)) in
    let kept = c.take_in.ensures.state ∙ leaves in record {
      answer_value = ap (λ v. verdict_of (told v)) e ∙ sym (ap told c.in_err-take_in.was) ∙ c.take_in.ensures.answer_value;
      state = ap (λ v. state_of c.take_in.new.matrix c.take_in.new.rights (value_or a.t (told v))) e
          ∙ (λ i. state_of (kept i).matrix (kept i).rights a.t) ∙ sym leaves;
    }

pub returns : goal.returns
unfolding verdict_of value_or
returns c = record { answer_value = sym (ap told c.in_ok-take_in.was) ∙ c.take_in.ensures.answer_value; state = c.take_in.ensures.state }
