-- `take_state::judge_state` meets its contract: 20, 2, 4 and 5, then 6.
use Rattle.std.proofs.Common.{rules, ◌≡◌, sym, ap, ◌∙◌, Err}
use Rattle.refusal.specs.Told.{told}
use Rattle.take_state.proofs.Rooms.{accepted, stopped, roomed, state_room, state_unsound, state_sound}
use Rattle.take_state.proofs.judge_state.Goals as goal

pub is_sound-requires : goal.is_sound-requires
is_sound-requires c = let w = roomed _ _ _ (accepted c.judge_room.ensures c.in_ok-judge_room.was) in (w.sound.few, w.matrix, w.rights)

pub returns-in_err-judge_room : goal.returns-in_err-judge_room
returns-in_err-judge_room c =
    let e : c.from_residual.result ≡ Err c.in_err-judge_room.field-0.0 = search rules in
    ap told e ∙ state_room _ _ _ (stopped c.judge_room.ensures c.in_err-judge_room.was)

pub returns-then-is_sound : goal.returns-then-is_sound
returns-then-is_sound c = state_sound _ _ (accepted c.judge_room.ensures c.in_ok-judge_room.was) (sym c.is_sound.ensures ∙ c.if-is_sound.true)

pub returns-else-is_sound : goal.returns-else-is_sound
returns-else-is_sound c = state_unsound _ _ (accepted c.judge_room.ensures c.in_ok-judge_room.was) (sym c.is_sound.ensures ∙ c.if-is_sound.false)
