-- `call_part::part` meets its contract: 20, or what the entry says, with everything put back.
use mathlib.Core.Path.{sym, ap₂, ◌∙◌}
use lib.ListN.{length}
use Rattle.take_state.specs.State.{state_of}
use Rattle.part_laws.specs.Entries.{part_told, part_position, part_state, part_answers}
use Rattle.call_part.proofs.Calls.{state_long, part_short, part_done}
use Rattle.call_part.proofs.part.Goals as goal

pub give_parted-requires : goal.give_parted-requires
give_parted-requires c = state_long _ _ _ (sym c.has_rooms.ensures ∙ c.if-has_rooms.true)

pub returns-then-has_rooms : goal.returns-then-has_rooms
returns-then-has_rooms c =
    let a = c.args in
    let lent = sym c.has_rooms.ensures ∙ c.if-has_rooms.true in
    let p = c.position_in-p.ensures in
    let t = c.tally_in-t.ensures in
    let got = part_done _ _ _ _ lent _ _ _ _ _
    (c.part-x.ensures.answer_value ∙ ap₂ (λ p t. part_told p (state_of a.matrix.now a.rights.now t) a.bytes.now (length a.answers.now)) p t)
    (c.part-x.ensures.position ∙ ap₂ (λ p t. part_position p (state_of a.matrix.now a.rights.now t) a.bytes.now (length a.answers.now)) p t)
    (c.part-x.ensures.state ∙ ap₂ (λ p t. part_state p (state_of a.matrix.now a.rights.now t) a.bytes.now (length a.answers.now)) p t)
    (c.part-x.ensures.told ∙ ap₂ (λ p t. part_answers p (state_of a.matrix.now a.rights.now t) a.bytes.now a.answers.now) p t)
    c.give_parted.ensures.value c.give_parted.ensures.position c.give_parted.ensures.tally c.give_parted.ensures.left in record {
      value = got.0;
      left = got.1.0;
      answers = got.1.1.0;
      told = got.1.1.1;
    }

pub returns-else-has_rooms : goal.returns-else-has_rooms
returns-else-has_rooms c =
    let got = part_short _ _ _ _ (sym c.has_rooms.ensures ∙ c.if-has_rooms.false) in record {
      value = got.0;
      left = got.1.0;
      answers = got.1.1.0;
      told = got.1.1.1;
    }
