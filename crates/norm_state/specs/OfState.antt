-- Document 01, 'Normal file': "A state gives the file of its one arc, accepted being n." "arc 0 for kinds 1 and 2, else a listed arc". "Writing: 2, 4, 5,
-- 6, .. 20"; a state whose room is too short is 20 before 6, since nothing can be judged of sums that are not there. "A longer buffer keeps its rest. A refusal changes nothing lent."
use Rattle.std.specs.Prelude.{ℕ, List, [], ◌∷◌, map, take}
use Rattle.num_whole.specs.Tests.{up_to, pick}
use Rattle.num_whole.specs.Answer.{Answered}
use Rattle.refusal.specs.First.{unless, number_in, first}
use Rattle.byte_section.specs.Writing.{writing_number, written, written_in}
use Rattle.arc_limits.specs.declared.Label.{Label}
use Rattle.arc_heading.specs.Judge.{labels_of, judged}
use Rattle.arc_heading.specs.declared.Heading.{Heading}
use Rattle.num_packed.specs.Triangle.{tri}
use Rattle.take_tally.specs.Tally.{accepted}
use Rattle.take_state.specs.State.{State, roomy, sound_state}
use Rattle.norm_system.specs.System.{System}
use Rattle.norm_system.specs.declared.NormalLabel.{NormalLabel}
use Rattle.norm_kinds.specs.Bytes.{normal_bytes}

-- the arc that a label of a kind is of: 0 for kinds 1 and 2, which all arcs share
unfoldable pub arc_for : ℕ → ℕ → ℕ
arc_for arc kind = pick (up_to kind 2) 0 arc

unfoldable pub label_of_arc : ℕ → Label → NormalLabel
label_of_arc arc l =
    record { kind = l.kind; index = l.index; arc = arc_for arc l.kind; weight = l.weight; estimate = l.estimate }

-- what the state of an arc holds, as a system of that one arc
unfoldable pub system_of_state : Heading → State → System
system_of_state h s =
    record {
      arcs = h.settings.arc ∷ [];
      labels = map (label_of_arc h.settings.arc) (labels_of h);
      matrix = take (tri h.parameters) s.matrix;
      rights = take h.parameters s.rights;
      accepted = accepted s.tally;
      square = s.tally.square;
    }

unfoldable pub state_bytes : Heading → State → List ℕ
state_bytes h s = normal_bytes (system_of_state h s)

-- 2, 4, 5 for the heading, which needs no room, 20 for the state's room, 6; 0 where nothing is wrong
unfoldable pub held_number : Heading → State → ℕ
held_number h s =
    first
    (number_in (judged h)
    ∷ unless 20 (roomy h s.matrix s.rights)
    ∷ unless 6 (sound_state h.stations h.parameters s)
    ∷ [])

-- these, then 20 for the bytes
unfoldable pub file_number : Heading → State → ℕ → ℕ
file_number h s room = writing_number (held_number h s) (state_bytes h s) room

-- the length of the file, or the refusal
unfoldable pub file_of : Heading → State → ℕ → Answered ℕ
file_of h s room = written (held_number h s) (state_bytes h s) room

-- what is left in the buffer
unfoldable pub state_left_in : Heading → State → List ℕ → List ℕ
state_left_in h s out = written_in (held_number h s) (state_bytes h s) out
