-- What is written of a state is a normal file: it is accepted, and it holds exactly the state's one arc, labels and sums.
-- Assumes nothing.
use Prim.Native.Nat.{ℕ, ◌≤◌}
use mathlib.Core.Path.{◌≡◌, refl, sym, ap, ◌∙◌}
use mathlib.Core.Bool.{true, false}
use native.Mathlib.Omega.{arith}
use lib.ListN.{length}
use mir.Syntax.{w64}
use mir.Val.{SFits}
use Rattle.num_whole.specs.Answer.{good}
use Rattle.num_whole.specs.Lists.{all, ascend, Each}
use Rattle.num_whole.proofs.Cases.{holds, is_up_to, both_first, between_true}
use Rattle.refusal.proofs.Firsts.{first_none}
use Rattle.arc_limits.specs.Limits.{settings_ok}
use Rattle.arc_heading.specs.Judge.{labels_of}
use Rattle.arc_heading.specs.declared.Heading.{Heading}
use Rattle.num_packed.specs.Triangle.{tri}
use Rattle.take_state.specs.State.{State, sound_state}
use Rattle.take_state.proofs.Rooms.{Roomed}
use Rattle.norm_system.specs.System.{arc_ok, nowhere, sums_where, unsound_stored, unsound_in}
use Rattle.norm_system.proofs.Sound.{SoundSystem, sound_where}
use Rattle.norm_read.specs.Normal.{read_normal}
use Rattle.norm_read.proofs.Back.{placed, written_read}
use Rattle.norm_state.specs.OfState.{system_of_state, state_bytes, file_number}
use Rattle.norm_state.proofs.Labels.{labels_ok, labels_held_lem, keys_ascend}
use Rattle.norm_state.proofs.Numbers.{held_sound}
use Rattle.norm_state.proofs.Laid.{labels_long, matrix_many, rights_many}
use Rattle.norm_state.proofs.Sums.{state_sums}

module _ (h : Heading) (s : State) where
  -- what every heading and tally of the machine has: arrays of their lengths, estimates of 64 bits
  pub record Held : Type 0 where
    pub labels : length h.labels ≡ 50
    pub counts : length s.tally.counts ≡ 16
    pub estimates : Each (λ l. SFits w64 l.estimate) (labels_of h)

  module _ (held : Held) where
    module _ (room : Roomed h s.matrix s.rights) (sound : sound_state h.stations h.parameters s ≡ true) where
      fits : h.parameters ≤ length h.labels
      fits = omega (arith, room.sound.few, held.labels)

      arc_ok_lem : arc_ok h.settings.arc ≡ true
      unfolding settings_ok arc_ok
      arc_ok_lem = both_first _ _ room.sound.settings

      arc_few : h.settings.arc ≤ 999999
      unfolding arc_ok
      arc_few = (between_true _ _ _ arc_ok_lem).1

      sums : unsound_in (system_of_state h s) ≡ nowhere
      unfolding unsound_in unsound_stored system_of_state
      sums =
          ap (λ p. sums_where false 1 p (system_of_state h s).matrix (system_of_state h s).rights (system_of_state h s).accepted (system_of_state h s).square) (labels_long h fits)
          ∙ sound_where _ _ _ _ _ _ (state_sums h.stations h.parameters s sound held.counts)

      system_sound : SoundSystem (system_of_state h s)
      unfolding system_of_state all ascend
      system_sound =
          let many = labels_long h fits in
          record {
            some_arcs = omega arith;
            few_arcs = omega arith;
            arcs = sym (holds _ _ arc_ok_lem refl);
            arcs_up = sym (holds _ _ (is_up_to _ _ (omega arith)) refl);
            some_labels = omega (arith, many, room.sound.some);
            few_labels = omega (arith, many, room.sound.few);
            labels = labels_ok h.settings.arc (labels_of h) room.sound.labels;
            labels_up = keys_ascend h.settings.arc arc_few (labels_of h) room.sound.labels room.sound.labels_up;
            matrix = matrix_many h s fits room.matrix room.rights ∙ ap tri (sym many);
            rights = rights_many h s fits room.matrix room.rights ∙ sym many;
            sums = sums;
          }

    estimates : Each (λ l. SFits w64 l.estimate) (system_of_state h s).labels
    unfolding system_of_state
    estimates = labels_held_lem h.settings.arc (labels_of h) held.estimates

    -- what is written is accepted, and holds exactly that
    pub state_accepted : (room : ℕ) → file_number h s room ≡ 0 → read_normal (state_bytes h s) ≡ good (placed (system_of_state h s))
    unfolding file_number state_bytes
    state_accepted room e =
        let k = held_sound h s (first_none _ _ e).0 in
        written_read (system_of_state h s) (system_sound k.room k.sums) estimates
