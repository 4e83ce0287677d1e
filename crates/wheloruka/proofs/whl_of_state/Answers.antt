-- `wheloruka::whl_of_state` meets its contract: the file with its length, or a refusal.
use mathlib.Core.Path.{◌≡◌, sym, ap₂, ◌∙◌}
use lib.ListN.{length, take}
use lib.Seq.{length-take-le}
use Rattle.take_state.specs.State.{state_of}
use Rattle.norm_state.specs.OfState.{file_of, state_left_in}
use Rattle.wheloruka.specs.Taking.{lent}
use Rattle.wheloruka.specs.Writing.{headed_number, state_file, state_file_left}
use Rattle.wheloruka.proofs.Writes.{gives, keeps, file_whole, left_whole, file_headed, left_headed, state_none}
use Rattle.wheloruka.proofs.whl_of_state.Goals as goal

pub slice_bounds-of_state-end-then-k-eq0 : goal.slice_bounds-of_state-end-then-k-eq0
slice_bounds-of_state-end-then-k-eq0 c = sym (length-take-le _ _ c.room_for-room.ensures.1)

pub returns-then-k-eq0 : goal.returns-then-k-eq0
returns-then-k-eq0 c =
    let a = c.args in
    let x = lent a.tally.now a.matrix.now a.rights.now in
    let room = c.room_for-room.result in
    let h = c.heading_in-h.ensures in
    let t = c.tally_in-t.ensures in
    let whole = sym c.judge_headed-k.ensures ∙ c.if-k-eq0.true in
    let told = c.of_state-w.ensures.answer ∙ ap₂ (λ h t. file_of h (state_of a.matrix.now a.rights.now t) (length (take room a.out.now))) h t ∙ file_whole _ x whole _ in
    let left = c.of_state-w.ensures.left ∙ ap₂ (λ h t. state_left_in h (state_of a.matrix.now a.rights.now t) (take room a.out.now)) h t ∙ left_whole _ x whole _ in let got = gives (state_file a.heading.now x) (state_file_left a.heading.now x) _ _ (state_none _ _) _ c.room_for-room.ensures.0 _ told (c.give_written.ensures.value, c.give_written.ensures.left) left in record {
      value = got.0;
      size = got.1.0;
      bytes = got.1.1;
    }

pub returns-else-k-eq0 : goal.returns-else-k-eq0
returns-else-k-eq0 c =
    let a = c.args in
    let x = lent a.tally.now a.matrix.now a.rights.now in
    let is = c.judge_headed-k.ensures in
    let some : headed_number a.heading.now a.tally.now ≡ 0 → ⊥ = λ z. c.if-k-eq0.false (is ∙ z) in let got = keeps (state_file a.heading.now x) (state_file_left a.heading.now x) a.size.now a.out.now _ (file_headed _ x some _) is (left_headed _ x some _) in record {
      value = got.0;
      size = got.1.0;
      bytes = got.1.1;
    }
