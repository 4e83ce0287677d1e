-- `arc_write::judge_room` meets its contract: 1, then 20, then the length.
use native.Mathlib.Omega.{arith}
use Prim.Native.Nat.{◌%◌}
use mathlib.Core.Path.{refl, sym, ap, ◌∙◌}
use Rattle.num_whole.specs.Answer.{given}
use Rattle.num_whole.proofs.Cases.{yes, no, is_same, not_same, is_less, not_less}
use Rattle.arc_write.specs.Room.{room_answer}
use Rattle.arc_write.proofs.judge_room.Goals as goal

pub returns-then-room-n : goal.returns-then-room-n
unfolding room_answer
returns-then-room-n c =
    yes _ _ _ (is_same _ _ (ap (λ k. c.args.bytes % k) (sym c.record_size.ensures) ∙ c.if-bytes-record_size-ne0.false)) (yes _ _ _ (is_less _ _ (omega arith)) refl)

pub returns-else-room-n : goal.returns-else-room-n
unfolding room_answer
returns-else-room-n c =
    yes _ _ _ (is_same _ _ (ap (λ k. c.args.bytes % k) (sym c.record_size.ensures) ∙ c.if-bytes-record_size-ne0.false)) (no _ _ _ (not_less _ _ (omega arith)) (ap given c.needed-n.ensures))

pub returns-then-bytes-record_size-ne0 : goal.returns-then-bytes-record_size-ne0
unfolding room_answer
returns-then-bytes-record_size-ne0 c =
    no _ _ _ (not_same _ _ (λ e. c.if-bytes-record_size-ne0.true (ap (λ k. c.args.bytes % k) c.record_size.ensures ∙ e))) refl
