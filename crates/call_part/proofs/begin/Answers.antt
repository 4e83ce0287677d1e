-- `call_part::begin` meets its contract: 20, done, or refused with everything kept.
use mathlib.Core.Path.{sym, ◌∙◌}
use Rattle.refusal.specs.First.{verdict_of}
use Rattle.num_whole.proofs.Cases.{both_first}
use Rattle.call_part.proofs.Calls.{position_long_lem, begin_short, begin_done, begin_kept}
use Rattle.call_part.proofs.begin.Goals as goal

pub put_position-requires : goal.put_position-requires
put_position-requires c = position_long_lem _ (both_first _ _ (sym c.has_state.ensures ∙ c.if-has_state.true))

pub returns-in-Ok : goal.returns-in-Ok
unfolding verdict_of
returns-in-Ok c =
    let whole = sym c.has_state.ensures ∙ c.if-has_state.true in
    let told = rw c.in-Ok.is at c.begin.ensures.answer_value in
    let state = rw c.in-Ok.is at c.begin.ensures.state in
    let position = rw c.in-Ok.is at c.begin.ensures.position in
    let got = begin_done _ whole _ _ _ state _ position told c.put_position.ensures c.put_tally.ensures in record {
      value = got.0;
      left = got.1;
    }

pub returns-in-Err : goal.returns-in-Err
unfolding verdict_of
returns-in-Err c =
    let whole = sym c.has_state.ensures ∙ c.if-has_state.true in
    let told = rw c.in-Err.is at c.begin.ensures.answer_value in
    let got = begin_kept _ whole _ _ _ c.begin.ensures.state c.in-Err.e _ told c.number.ensures in record {
      value = got.0;
      left = got.1;
    }

pub returns-else-has_state : goal.returns-else-has_state
returns-else-has_state c =
    let got = begin_short _ (sym c.has_state.ensures ∙ c.if-has_state.false) in record {
      value = got.0;
      left = got.1;
    }
