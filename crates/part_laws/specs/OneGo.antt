-- Document 02, #102: "For a file of good form, answers and end state equal those of the file in one go. For one of bad form the number and place
-- are equal, but the records completed before it stay taken." Its parts as one, from an empty position and an empty state.
use Rattle.std.specs.Prelude.{ℕ, ◌<◌, ◌≡◌, List, false, ◌↔◌, ℤ, pos, length, drop}
use Rattle.num_whole.specs.Answer.{Judged}
use Rattle.num_limits.specs.Capacities.{parameters_most, stations_most}
use Rattle.byte_words.specs.Words.{lay}
use Rattle.byte_section.specs.Section.{and_then}
use Rattle.arc_heading.specs.declared.Heading.{Heading}
use Rattle.arc_read.specs.Arc.{Arc}
use Rattle.num_packed.specs.Triangle.{tri}
use Rattle.take_tally.specs.Tally.{empty_tally}
use Rattle.take_room.specs.Room.{cleared}
use Rattle.take_state.specs.State.{State, state_of, started, seen_in}
use Rattle.take_laws.specs.Taking.{frame_of, records_in, run_number, run_state, run_answers}
use Rattle.take_laws.specs.Arc.{end_of, told_in}
use Rattle.take_laws.specs.Mix.{pairs, taken, told_to}
use Rattle.take_laws.specs.SumsOver.{partial_of, SumsOver}
use Rattle.take_laws.specs.Order.{whose}
use Rattle.num_whole.specs.Lists.{Each}
use Rattle.part_laws.specs.Beginning.{done}
use Rattle.part_laws.specs.Feeding.{Fed, begun, feed, finish}

-- an empty state in lent sums, before the number of parameters is known
unfoldable pub emptied : List ℤ → List ℤ → State
emptied m r = state_of (cleared (tri parameters_most) m) (cleared parameters_most r) empty_tally

-- the bytes l handed over in one go
module _ (m r : List ℤ) (l : List ℕ) where
  abbrev pub fed : Fed
  fed = feed begun (emptied m r) l

  -- what parts and finish say of the form together
  abbrev pub said : Judged Arc
  said = and_then fed.verdict (λ u. finish fed.position)

-- the lent sums of an empty state
abbrev matrix : List ℤ → List ℤ
matrix m = cleared (tri parameters_most) m

abbrev rights : List ℤ → List ℤ
rights r = cleared parameters_most r

-- records of a file with this heading, their answers, and the state after them: they were taken one by one from the empty state, so demand 2
-- holds of them
pub record TakenOneByOne (m r : List ℤ) (h : Heading) (records : List (List ℕ)) (answers : List ℕ) (state : State) : Type 0 where
  pub end : state ≡ end_of h (matrix m) (rights r) records
  pub told : pairs records answers ≡ told_in h (matrix m) (rights r) records
  pub sums : SumsOver (frame_of h) state (taken (pairs records answers))
  pub unseen : (i : ℕ) → i < h.parameters
      → (seen_in state.matrix i ≡ false) ↔ Each (λ b. partial_of (frame_of h) b i ≡ pos 0) (taken (pairs records answers))

-- of a file of good form that opens with a: its records are all there are, and end and answers are those of its run taken in one go
module _ (m r : List ℤ) (l : List ℕ) (a : Arc) where
  abbrev run : List ℕ
  run = drop a.start l

  abbrev empty : State
  empty = started a.heading (matrix m) (rights r)

  pub record OneGo : Type 0 where
    pub records : done 0 l ≡ records_in a.heading run
    pub state : (room : ℕ) → run_number a.heading run room empty ≡ 0 → (fed m r l).state ≡ run_state a.heading run room empty
    pub answers : (out : List ℕ) → run_number a.heading run (length out) empty ≡ 0 → lay out 0 (fed m r l).answers ≡ run_answers a.heading run out empty

-- demand 3 of the records of two files that open with one heading, with their answers and the states after them: however the stations' records
-- are mixed
pub record MixedAlike (h : Heading) (records records₁ : List (List ℕ)) (answers answers₁ : List ℕ) (state state₁ : State) : Type 0 where
  pub same_answers : (k : ℕ) → k < stations_most
      → told_to (whose (frame_of h)) k (pairs records answers) ≡ told_to (whose (frame_of h)) k (pairs records₁ answers₁)
  pub same_end : state ≡ state₁
