-- `part::is_given` meets its contract: the position, then the state at it.
use native.Mathlib.Omega.{arith}
use Prim.Native.Nat.{◌≤◌}
use mathlib.Core.Path.{sym, ap₂, ◌∙◌, subst}
use lib.ListN.{length}
use Rattle.num_whole.proofs.Cases.{holds}
use Rattle.num_packed.specs.Triangle.{tri}
use Rattle.take_state.specs.State.{state_of}
use Rattle.part_laws.specs.Entries.{position_of, sound_by, sound_at}
use Rattle.part_laws.proofs.States.{parameters_most_lem}
use Rattle.part_place.proofs.Places.{stops}
use Rattle.part.proofs.Goes.{opened_roomy}
use Rattle.part.proofs.is_given.Goals as goal

pub is_sound_at-requires : goal.is_sound_at-requires
is_sound_at-requires c =
    let a = c.args in let e = c.requires.0 in record {
      parameters_le_parameters_most = (omega (arith, parameters_most_lem (position_of a.p).kept), c.requires.1, c.requires.2);
      room_at = opened_roomy (position_of a.p).kept a.matrix.now a.rights.now _ c.open_at-old.ensures.told (subst (λ n. tri n ≤ length a.matrix.now) e c.requires.1) (subst (λ n. n ≤ length a.rights.now) e c.requires.2);
    }

pub returns-then-is_fair : goal.returns-then-is_fair
unfolding sound_at
returns-then-is_fair c =
    let a = c.args in holds _ _ (sym c.is_fair.ensures ∙ c.if-is_fair.true) (c.is_sound_at.ensures ∙ ap₂ (λ n j. sound_by n a.p.taken (state_of a.matrix.now a.rights.now a.t) j) c.requires.0 c.open_at-old.ensures.told)

pub returns-else-is_fair : goal.returns-else-is_fair
returns-else-is_fair c = stops _ c.is_fair.ensures (sym c.is_fair.ensures ∙ c.if-is_fair.false)
