-- `take_state::start` meets its contract: the room is cleared only where the heading is accepted.
use Rattle.std.proofs.Common.{rules, arith, ◌≡◌, sym, ap, ◌∙◌, Err, add-zero}
use Rattle.refusal.specs.Told.{told}
use Rattle.refusal.specs.First.{value_or, verdict_of}
use Rattle.take_tally.specs.Tally.{empty_tally}
use Rattle.take_room.specs.Room.{cleared}
use Rattle.take_state.specs.State.{state_of}
use Rattle.take_state.proofs.Rooms.{accepted, stopped, roomed, started_kept, started_cleared}
use Rattle.take_state.proofs.start.Goals as goal

pub place-requires : goal.place-requires
place-requires c = (search rules, omega (arith, (roomed _ _ _ (accepted c.judge_room.ensures c.in_ok-judge_room.was)).sound.few))

pub clear-requires : goal.clear-requires
clear-requires c = omega (arith, c.place.ensures, (roomed _ _ _ (accepted c.judge_room.ensures c.in_ok-judge_room.was)).matrix)

pub clear-requires-2 : goal.clear-requires-2
clear-requires-2 c = omega (arith, (roomed _ _ _ (accepted c.judge_room.ensures c.in_ok-judge_room.was)).rights)

pub returns-in_err-judge_room : goal.returns-in_err-judge_room
unfolding value_or verdict_of
returns-in_err-judge_room c =
    let e : c.from_residual.result ≡ Err c.in_err-judge_room.field-0.0 = search rules in
    let m = c.args.matrix.now in let r = c.args.rights.now in record {
      answer_value = ap (λ v. verdict_of (told v)) e ∙ sym (ap told c.in_err-judge_room.was) ∙ c.judge_room.ensures;
      state = ap (λ v. state_of m r (value_or empty_tally (told v))) e ∙ started_kept _ _ _ _ (stopped c.judge_room.ensures c.in_err-judge_room.was);
    }

pub returns : goal.returns
unfolding value_or verdict_of
returns c =
    let m = c.args.matrix.now in record {
      answer_value = sym (ap told c.in_ok-judge_room.was) ∙ c.judge_room.ensures;
      state = started_cleared _ _ _ _ _ _ (accepted c.judge_room.ensures c.in_ok-judge_room.was) (c.clear.ensures ∙ ap (λ k. cleared k m) (c.place.ensures ∙ add-zero _)) c.clear-2.ensures c.no_tally.ensures;
    }
