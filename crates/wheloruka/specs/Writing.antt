-- What the call that writes the normal file of a state in lent room answers and leaves.
use Rattle.std.specs.Prelude.{ℕ, List, [], ◌∷◌}
use Rattle.num_whole.specs.Answer.{Answered}
use Rattle.refusal.specs.First.{unless, number_in, first}
use Rattle.byte_section.specs.Writing.{written, written_in}
use Rattle.arc_heading.specs.Judge.{judged}
use Rattle.take_state.specs.State.{roomy, sound_state}
use Rattle.call_heading.specs.Lent.{heading_in, head_number}
use Rattle.call_tally.specs.Tally.{has_tally}
use Rattle.norm_state.specs.OfState.{state_bytes}
use Rattle.wheloruka.specs.Taking.{Lent, state_in}

-- a heading b in lent bytes with its tally t, before any sum is looked at: 20 and 2 for what of the heading is there, 4, 5, 20 for the tally
unfoldable pub headed_number : List ℕ → List ℕ → ℕ
headed_number b t = first (head_number b ∷ number_in (judged (heading_in b)) ∷ unless 20 (has_tally t) ∷ [])

-- ---- the normal file of a state in lent room: these, 20 for the sums' rooms, 6; 0 where nothing is wrong
unfoldable pub state_file_number : List ℕ → Lent → ℕ
state_file_number b x =
    first
    (headed_number b x.tally
    ∷ unless 20 (roomy (heading_in b) x.matrix x.rights)
    ∷ unless 6 (sound_state (heading_in b).stations (heading_in b).parameters (state_in x))
    ∷ [])

-- then 20 for the bytes
unfoldable pub state_file : List ℕ → Lent → ℕ → Answered ℕ
state_file b x room = written (state_file_number b x) (state_bytes (heading_in b) (state_in x)) room

unfoldable pub state_file_left : List ℕ → Lent → List ℕ → List ℕ
state_file_left b x out = written_in (state_file_number b x) (state_bytes (heading_in b) (state_in x)) out
