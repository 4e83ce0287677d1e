-- `call_part::finish` meets its contract: 20, or what the entry says, with the position put back.
use mathlib.Core.Path.{sym, ap, ◌∙◌}
use Rattle.part_laws.specs.Entries.{finish_told, finish_position}
use Rattle.call_told.specs.Told.{with_all}
use Rattle.call_part.proofs.Calls.{place_long, finish_short, finish_done}
use Rattle.call_part.proofs.finish.Goals as goal

pub put_back-requires : goal.put_back-requires
put_back-requires c = (place_long _ _ (sym c.is_lent.ensures ∙ c.if-is_lent.true)).0

pub give_told-requires : goal.give_told-requires
give_told-requires c = (place_long _ _ (sym c.is_lent.ensures ∙ c.if-is_lent.true)).1

pub returns-then-is_lent : goal.returns-then-is_lent
returns-then-is_lent c =
    let finish = c.finish-f in
    let p = c.position_in-p.ensures in let got = finish_done _ _ (sym c.is_lent.ensures ∙ c.if-is_lent.true) _ _
    (c.with_all-answer.ensures ∙ ap (with_all c.position_in-p.result.taken) finish.ensures.answer_value ∙ ap (λ p. with_all p.taken (finish_told p)) p)
    (finish.ensures.position ∙ ap finish_position p)
    c.give_told.ensures.value c.put_back.ensures c.give_told.ensures.left in record {
      value = got.0;
      left = got.1.0;
      told = got.1.1;
    }

pub returns-else-is_lent : goal.returns-else-is_lent
returns-else-is_lent c =
    let got = finish_short _ _ (sym c.is_lent.ensures ∙ c.if-is_lent.false) in record {
      value = got.0;
      left = got.1.0;
      told = got.1.1;
    }
