-- `wheloruka::whl_carries` meets its contract: 20 where the heading or the tally is short, else what the state's entry told.
use mathlib.Core.Path.{sym, ap₂, ◌∙◌}
use Rattle.take_state.specs.State.{state_of, carries_of}
use Rattle.wheloruka.proofs.Calls.{carries_short, carries_whole}
use Rattle.wheloruka.proofs.whl_carries.Goals as goal

pub returns-then-has_both : goal.returns-then-has_both
returns-then-has_both c =
    let a = c.args in let got = carries_whole _ _ _ _ _ (sym c.has_both.ensures ∙ c.if-has_both.true) _
    (c.carries.ensures ∙ ap₂ (λ h t. carries_of h (state_of a.matrix.now a.rights.now t) a.parameter a.station) c.heading_in-h.ensures c.tally_in-t.ensures)
    (c.give_sight.ensures.value, c.give_sight.ensures.left) in record {
      value = got.0;
      left = got.1;
    }

pub returns-else-has_both : goal.returns-else-has_both
returns-else-has_both c =
    let got = carries_short _ _ _ _ _ (sym c.has_both.ensures ∙ c.if-has_both.false) in record {
      value = got.0;
      left = got.1;
    }
