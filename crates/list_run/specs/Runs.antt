-- Document 01, 'At the edges' 7: what the arc program prints of a sound heading and a run of its records, taken from the empty state on.
use Rattle.std.specs.Prelude.{ℕ, List, ℤ, pos, replicate, drop}
use Rattle.num_whole.specs.Answer.{Judged, good, bad}
use Rattle.num_limits.specs.Capacities.{parameters_most, arc_sums_most}
use Rattle.arc_heading.specs.declared.Heading.{Heading}
use Rattle.arc_read.specs.Arc.{Arc, read_arc}
use Rattle.take_tally.specs.Tally.{empty_tally}
use Rattle.take_state.specs.State.{State, state_of}
use Rattle.take_laws.specs.Machine.{run, answers}
use Rattle.take_laws.specs.Taking.{frame_of, record_answer, record_step, records_in}
use Rattle.list_lines.specs.Lines.{tallies_of, arc_lines, refused_line}

-- the empty state: sums of fifty parameters, as many as a heading can have, each 0
unfoldable pub no_sums : List ℤ
no_sums = replicate arc_sums_most (pos 0)

unfoldable pub no_sides : List ℤ
no_sides = replicate parameters_most (pos 0)

abbrev pub empty_state : State
empty_state = state_of no_sums no_sides empty_tally

module _ (h : Heading) (bytes : List ℕ) where
  -- what the records of a run are answered, one after another from the empty state on; and the state after them
  unfoldable pub told_of : List ℕ
  told_of = answers (record_step (frame_of h)) (record_answer (frame_of h)) empty_state (records_in h bytes)

  unfoldable pub state_after : State
  state_after = run (record_step (frame_of h)) empty_state (records_in h bytes)

  -- the lines of an arc with so many records
  unfoldable pub run_lines : ℕ → List ℕ
  run_lines n = arc_lines h n (tallies_of told_of) state_after.matrix state_after.rights state_after.tally

-- "A refused file prints only `refused N at PLACE`"
abbrev pub listed : List ℕ → Judged Arc → List ℕ
listed file (good a) = run_lines a.heading (drop a.start file) a.count
listed file (bad number place) = refused_line number place

-- what is printed of a file, however long: 02, #102, "The arc program then takes files of all lengths"
unfoldable pub listing : List ℕ → List ℕ
listing file = listed file (read_arc file)
