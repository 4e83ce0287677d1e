-- `wheloruka::whl_carriers` meets its contract: 20 where the heading or the tally is short, else what the state's entry told.
use mathlib.Core.Path.{sym, ap, ap₂, ◌∙◌}
use Rattle.refusal.specs.Told.{told}
use Rattle.call_rooms.specs.Result.{one}
use Rattle.call_rooms.proofs.Rooms.{on_given, on_refused}
use Rattle.take_state.specs.State.{state_of, carriers_of}
use Rattle.wheloruka.proofs.Calls.{carriers_short, carriers_whole}
use Rattle.wheloruka.proofs.whl_carriers.Goals as goal

pub returns-in-Ok : goal.returns-in-Ok
unfolding one
returns-in-Ok c =
    let a = c.args in
    let got = carriers_whole _ _ _ _ (sym c.has_both.ensures ∙ c.if-has_both.true) _
    (c.carried_by.ensures ∙ ap₂ (λ h t. carriers_of h (state_of a.matrix.now a.rights.now t) a.parameter) c.heading_in-h.ensures c.tally_in-t.ensures)
    (on_given one _ _ _ (ap told c.in-Ok.is) (c.give.ensures.value, c.give.ensures.left)) in record {
      value = got.0;
      left = got.1;
    }

pub returns-in-Err : goal.returns-in-Err
returns-in-Err c =
    let a = c.args in
    let got = carriers_whole _ _ _ _ (sym c.has_both.ensures ∙ c.if-has_both.true) _
    (c.carried_by.ensures ∙ ap₂ (λ h t. carriers_of h (state_of a.matrix.now a.rights.now t) a.parameter) c.heading_in-h.ensures c.tally_in-t.ensures)
    (on_refused one _ _ _ (ap told c.in-Err.is) c.number.ensures) in record {
      value = got.0;
      left = got.1;
    }

pub returns-else-has_both : goal.returns-else-has_both
returns-else-has_both c =
    let got = carriers_short _ _ _ _ (sym c.has_both.ensures ∙ c.if-has_both.false) in record {
      value = got.0;
      left = got.1;
    }
