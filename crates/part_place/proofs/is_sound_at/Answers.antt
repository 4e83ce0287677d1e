-- `part_place::is_sound_at` meets its contract: judged once the file is opened, else empty.
use mathlib.Core.Path.{◌≡◌, sym, ap, ◌∙◌}
use Rattle.num_whole.specs.Tests.{up_to}
use Rattle.num_whole.proofs.Cases.{holds, by_up_to}
use Rattle.take_state.specs.State.{state_of, sound_state}
use Rattle.part_place.proofs.Heads.{judged_so}
use Rattle.part_place.proofs.Places.{stops}
use Rattle.part_place.proofs.is_sound_at.Goals as goal

pub returns-then-is_ok : goal.returns-then-is_ok
returns-then-is_ok c =
    let a = c.args in
    let room = rw c.in-Ok.is at c.requires.room_at in
    let is = c.is_ok.ensures.value ∙ judged_so c.in-Ok.a.heading (state_of a.matrix.now a.rights.now a.t) c.judge_state.result room c.judge_state.ensures in
    rw c.in-Ok.is (holds _ _ (sym is ∙ c.if-is_ok.true) (by_up_to _ _ ∙ ap (λ n. up_to n a.taken) c.accepted.ensures.0))

pub returns-else-is_ok : goal.returns-else-is_ok
returns-else-is_ok c =
    let a = c.args in
    let room = rw c.in-Ok.is at c.requires.room_at in
    let is = c.is_ok.ensures.value ∙ judged_so c.in-Ok.a.heading (state_of a.matrix.now a.rights.now a.t) c.judge_state.result room c.judge_state.ensures in
    rw c.in-Ok.is (stops _ is (sym is ∙ c.if-is_ok.false))
