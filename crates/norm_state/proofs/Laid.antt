-- The bytes of a state's file in the parts that are laid one after the other, and how long it is.
-- Assumes nothing.
use Prim.Native.Nat.{ℕ, ◌+◌, ◌*◌, ◌≤◌}
use mathlib.Core.Path.{◌≡◌, refl, ap, ◌∙◌}
use mathlib.Core.List.{List, [], ◌∷◌, ◌++◌, map, append-nil}
use lib.ListN.{length, take, length-map}
use lib.Seq.{length-take-le}
use Rattle.byte_words.specs.Words.{bytes_of, lay}
use Rattle.byte_words.proofs.Words.{length_bytes_of, lay_append}
use Rattle.byte_section.specs.Section.{encoded}
use Rattle.arc_heading.specs.Judge.{labels_of}
use Rattle.arc_heading.specs.declared.Heading.{Heading}
use Rattle.num_packed.specs.Triangle.{tri}
use Rattle.take_tally.specs.Tally.{accepted}
use Rattle.take_state.specs.State.{State}
use Rattle.norm_kinds.specs.Kinds.{arc_number_bytes, normal_label_bytes}
use Rattle.norm_kinds.specs.Bytes.{sectioned}
use Rattle.norm_room.specs.Room.{file_long}
use Rattle.norm_put.specs.Bytes.{tail_bytes}
use Rattle.norm_put.proofs.Laid.{file_laid, file_long_lem}
use Rattle.norm_state.specs.OfState.{label_of_arc, system_of_state, state_bytes}

-- the arcs section of one arc
pub arc_laid : (out : List ℕ) (arc : ℕ) → lay (lay out 0 (bytes_of 4 1)) 4 (bytes_of 4 arc) ≡ lay out 0 (sectioned arc_number_bytes (arc ∷ []) [])
unfolding encoded arc_number_bytes
arc_laid out arc = lay_append out 0 4 _ _ (simp length_bytes_of) ∙ ap (λ b. lay out 0 (bytes_of 4 1 ++ b)) (simp append-nil)

pub labels_long : (h : Heading) → h.parameters ≤ length h.labels → length (map (label_of_arc h.settings.arc) (labels_of h)) ≡ h.parameters
unfolding labels_of
labels_long h few = length-map (take h.parameters h.labels) (label_of_arc h.settings.arc) ∙ length-take-le h.parameters h.labels few

-- the whole file
module _ (h : Heading) (s : State) (few : h.parameters ≤ length h.labels) where
  pub labels_many : length (system_of_state h s).labels ≡ h.parameters
  unfolding system_of_state
  labels_many = labels_long h few

  pub state_laid : (out : List ℕ)
      → let a = lay out 0 (sectioned arc_number_bytes (h.settings.arc ∷ []) []) in
      let b = lay a 8 (sectioned normal_label_bytes (map (label_of_arc h.settings.arc) (labels_of h)) []) in
      lay b (12 + 24 * h.parameters) (tail_bytes (take (tri h.parameters) s.matrix) (take h.parameters s.rights) (accepted s.tally) s.tally.square)
      ≡ lay out 0 (state_bytes h s)
  unfolding state_bytes system_of_state
  state_laid out = file_laid 1 h.parameters (system_of_state h s) refl labels_many out

  module _ (sums : tri h.parameters ≤ length s.matrix) (sides : h.parameters ≤ length s.rights) where
    pub matrix_many : length (system_of_state h s).matrix ≡ tri h.parameters
    unfolding system_of_state
    matrix_many = length-take-le (tri h.parameters) s.matrix sums

    pub rights_many : length (system_of_state h s).rights ≡ h.parameters
    unfolding system_of_state
    rights_many = length-take-le h.parameters s.rights sides

    pub state_long : length (state_bytes h s) ≡ file_long 1 h.parameters
    unfolding state_bytes system_of_state
    state_long = file_long_lem 1 h.parameters (system_of_state h s) refl labels_many matrix_many rights_many
