-- `part::begin` meets its contract: 20, or the room is cleared.
use native.Mathlib.Omega.{arith}
use Prim.Native.Nat.{◌≤◌}
use mathlib.Core.Path.{◌≡◌, refl, sym, ap, ◌∙◌, subst}
use lib.ListN.{length}
use Rattle.refusal.specs.First.{verdict_of}
use Rattle.take_room.specs.Room.{cleared}
use Rattle.take_state.specs.State.{state_of}
use Rattle.part_laws.specs.OneGo.{emptied}
use Rattle.part.proofs.Stops.{room_asked, room_given, begins, begins_not}
use Rattle.part.proofs.begin.Goals as goal

pub clear-requires : goal.clear-requires
clear-requires c =
    let a = c.args in
    let room = sym (c.is_roomy.ensures ∙ room_asked 50 50 a.matrix.now a.rights.now refl (omega arith)) ∙ c.if-not-is_roomy.false in
    subst (λ n. n ≤ length a.matrix.now) (sym c.triangle-sums.ensures.0) (room_given _ _ _ room).0

pub clear-requires-2 : goal.clear-requires-2
clear-requires-2 c =
    let a = c.args in
    let room = sym (c.is_roomy.ensures ∙ room_asked 50 50 a.matrix.now a.rights.now refl (omega arith)) ∙ c.if-not-is_roomy.false in
    (room_given _ _ _ room).1

pub returns : goal.returns
unfolding emptied verdict_of
returns c =
    let a = c.args in
    let room = sym (c.is_roomy.ensures ∙ room_asked 50 50 a.matrix.now a.rights.now refl (omega arith)) ∙ c.if-not-is_roomy.false in
    let v = begins a.matrix.now a.rights.now room in
    let zeros = c.clear.ensures ∙ ap (λ n. cleared n a.matrix.now) c.triangle-sums.ensures.0 in record {
      answer_value = v.0;
      position = c.begun.ensures;
      state = (λ i. state_of (zeros i) (c.clear-2.ensures i) (c.no_tally.ensures i)) ∙ v.1;
    }

pub returns-then-not-is_roomy : goal.returns-then-not-is_roomy
unfolding verdict_of
returns-then-not-is_roomy c =
    let a = c.args in
    let v = begins_not a.matrix.now a.rights.now (sym (c.is_roomy.ensures ∙ room_asked 50 50 a.matrix.now a.rights.now refl (omega arith)) ∙ c.if-not-is_roomy.true) in record {
      answer_value = v.0;
      position = refl;
      state = v.1;
    }
