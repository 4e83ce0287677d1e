-- `call_part::heading` meets its contract: 20, 6, 1, 20, or the heading in its room.
use mathlib.Core.Path.{sym, ap, ◌∙◌}
use Rattle.call_part.proofs.Calls.{place_long}
use Rattle.call_part.proofs.Heads.{head_lacks, head_refused, head_given_lem}
use Rattle.call_part.proofs.heading.Goals as goal

pub give_head-requires : goal.give_head-requires
give_head-requires c =
    let fits = rw c.in-Ok.is at c.head_of.ensures.fits in
    (fits.0, fits.1, (place_long _ _ (sym c.is_lent.ensures ∙ c.if-is_lent.true)).1)

pub give_told-requires : goal.give_told-requires
give_told-requires c = (place_long _ _ (sym c.is_lent.ensures ∙ c.if-is_lent.true)).1

pub returns-in-Ok : goal.returns-in-Ok
returns-in-Ok c =
    let told = rw c.in-Ok.is at c.head_of.ensures.answer_value in
    let given = rw c.in-Ok.is at c.head_of.ensures.heading in
    let got = head_given_lem _ _ _ (sym c.is_lent.ensures ∙ c.if-is_lent.true) _ _ _ told given
    (ap (λ p. p.taken) c.position_in-n.ensures) (c.give_head.ensures.value, (c.give_head.ensures.heading, c.give_head.ensures.left)) in record {
      value = got.0;
      heading = got.1.0;
      told = got.1.1;
    }

pub returns-in-Err : goal.returns-in-Err
returns-in-Err c =
    let told = rw c.in-Err.is at c.head_of.ensures.answer_value in
    let got = head_refused _ _ _ (sym c.is_lent.ensures ∙ c.if-is_lent.true) c.in-Err.r told (c.give_told.ensures.value, c.give_told.ensures.left) in record {
      value = got.0;
      heading = got.1.0;
      told = got.1.1;
    }

pub returns-else-is_lent : goal.returns-else-is_lent
returns-else-is_lent c =
    let got = head_lacks _ _ _ (sym c.is_lent.ensures ∙ c.if-is_lent.false) in record {
      value = got.0;
      heading = got.1.0;
      told = got.1.1;
    }
