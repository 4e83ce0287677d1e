-- `wheloruka::whl_start` meets its contract: 20, done, or refused with everything kept.
use Rattle.std.proofs.Common.{sym, ap, ◌∙◌}
use Rattle.refusal.specs.First.{answered}
use Rattle.take_tally.specs.Tally.{empty_tally}
use Rattle.take_state.specs.State.{room_number, started}
use Rattle.wheloruka.proofs.Calls.{short, gives, start_kept}
use Rattle.wheloruka.proofs.whl_start.Goals as goal

pub returns-then-has_both : goal.returns-then-has_both
returns-then-has_both c =
    let a = c.args in
    let h = c.heading_in.ensures in
    let whole = sym c.has_both.ensures ∙ c.if-has_both.true in
    let told = c.start-started.ensures.answer_value ∙ ap (λ h. answered (room_number h a.matrix.now a.rights.now) tt) h in
    let left = c.start-started.ensures.state ∙ ap (λ h. started h a.matrix.now a.rights.now) h in
    let got = gives _ _ _ _ whole _ _ empty_tally (start_kept _ _ _) _ told left (c.give_taken.ensures.value, c.give_taken.ensures.left) in record {
      value = got.0;
      left = got.1;
    }

pub returns-else-has_both : goal.returns-else-has_both
returns-else-has_both c =
    let got = short _ _ _ _ (sym c.has_both.ensures ∙ c.if-has_both.false) in record {
      value = got.0;
      left = got.1;
    }
