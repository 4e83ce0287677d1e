-- Document 01, 'Taking a record': "The state holds the packed upper triangle by columns, the right sides, the square sum, a count for each
-- station and a table of sixteen rows of ten last times, 0 for none."; 02, #105: "The arc's state gains this table [of marks] and its rule". What
-- a state is, the empty one, and which states are sound (6).
use Rattle.std.specs.Prelude.{ℕ, suc, ◌*◌, ◌^◌, min, List, [], ◌∷◌, Bool, true, false, not, ℤ, pos, length}
use Rattle.num_limits.specs.Capacities.{parameters_most}
use Rattle.take_room.specs.Room.{cleared}
use Rattle.num_whole.specs.Tests.{less, same, pick, both, below}
use Rattle.num_whole.specs.Answer.{Answered, given, refused}
use Rattle.refusal.specs.First.{unless, number_in, first, answered}
use Rattle.num_packed.specs.Triangle.{tri}
use Rattle.num_packed.specs.Room.{sums_roomy}
use Rattle.num_packed.specs.Sound.{entry, is_zero, breaks, breaks_side}
use Rattle.arc_heading.specs.Judge.{judged}
use Rattle.arc_heading.specs.declared.Heading.{Heading}
use Rattle.take_marks.specs.Marks.{has_mark, mark_count}
use Rattle.take_tally.specs.Tally.{empty_tally, accepted, mark_of, tally_sound, marks_sound}
use Rattle.take_tally.specs.declared.Tally.{Tally}

pub record State : Type 0 where
  pub matrix : List ℤ
  pub rights : List ℤ
  pub tally : Tally

abbrev pub state_of : List ℤ → List ℤ → Tally → State
state_of m r t = record { matrix = m; rights = r; tally = t }

-- ---- sound states
-- "no matrix sum passes n·2^46, no right side n·2^43": what one record adds at the most
abbrev pub matrix_unit : ℕ
matrix_unit = 2 ^ 46

abbrev pub right_unit : ℕ
right_unit = 2 ^ 43

abbrev pub matrix_top : ℕ → ℕ
matrix_top n = n * matrix_unit

abbrev pub right_top : ℕ → ℕ
right_top n = n * right_unit

-- each sum of p parameters, alone: within its bound, and 0 beside a diagonal that is 0; the diagonal not negative
unfoldable pub matrix_sound : ℕ → ℕ → List ℤ → Bool
matrix_sound p top m = below (λ j. below (λ i. not (breaks (pos top) m i j)) (suc j)) p

unfoldable pub rights_sound : ℕ → ℕ → List ℤ → List ℤ → Bool
rights_sound p top m r = below (λ i. not (breaks_side (pos top) m r i)) p

-- the tally and the sums of some stations and p parameters; where n is 0 every bound is 0, and so is every sum
unfoldable pub sums_sound : ℕ → ℕ → State → Bool
sums_sound stations p s =
    both (tally_sound stations s.tally)
    (both (matrix_sound p (matrix_top (accepted s.tally)) s.matrix)
    (rights_sound p (right_top (accepted s.tally)) s.matrix s.rights))

-- a state of some stations and p parameters
unfoldable pub sound_state : ℕ → ℕ → State → Bool
sound_state stations p s = both (sums_sound stations p s) (marks_sound p s.matrix s.tally)

-- ---- what is lent
-- "a number past its capacity standing as the capacity"
abbrev pub capped : Heading → ℕ
capped h = min h.parameters parameters_most

-- "a lent buffer shorter than needed": one element for each matrix sum, and one for each right side
unfoldable pub roomy : Heading → List ℤ → List ℤ → Bool
roomy h m r = sums_roomy (capped h) (length m) (length r)

-- 20, 2, 4, 5: a heading with room for its state
unfoldable pub room_number : Heading → List ℤ → List ℤ → ℕ
room_number h m r = first (unless 20 (roomy h m r) ∷ number_in (judged h) ∷ [])

-- 20, 2, 4, 5, 6: a heading with a state
unfoldable pub state_number : Heading → State → ℕ
state_number h s = first (room_number h s.matrix s.rights ∷ unless 6 (sound_state h.stations h.parameters s) ∷ [])

-- ---- the entries
-- the empty state of a heading in lent room; a refusal leaves the room as it was
unfoldable pub started : Heading → List ℤ → List ℤ → State
started h m r =
    pick (same (room_number h m r) 0)
    (record { matrix = cleared (tri h.parameters) m; rights = cleared h.parameters r; tally = empty_tally })
    (record { matrix = m; rights = r; tally = empty_tally })

-- "A parameter is reported unseen exactly where its diagonal sum is 0"
unfoldable pub seen_in : List ℤ → ℕ → Bool
seen_in m i = not (is_zero (entry m i i))

-- a heading with a state, and one of its parameters: 20, 2, 4, 5, 6, then 4 where i is none of them
unfoldable pub parameter_number : Heading → State → ℕ → ℕ
parameter_number h s i = first (state_number h s ∷ unless 4 (less i h.parameters) ∷ [])

-- whether parameter i is seen
unfoldable pub sight_of : Heading → State → ℕ → Answered Bool
sight_of h s i = answered (parameter_number h s i) (seen_in s.matrix i)

-- 02, #105: "give the number of stations for each parameter"
unfoldable pub carriers_of : Heading → State → ℕ → Answered ℕ
carriers_of h s i = answered (parameter_number h s i) (mark_count (mark_of s.tally i))

-- "we are asked which stations carry a parameter": whether the station of row k does; last 4, where k is none of the heading's stations
unfoldable pub carries_of : Heading → State → ℕ → ℕ → Answered Bool
carries_of h s i k = answered (first (parameter_number h s i ∷ unless 4 (less k h.stations) ∷ [])) (has_mark (mark_of s.tally i) k)
