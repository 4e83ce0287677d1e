-- An arc from its empty state: records taken one by one, heading and state judged before each. The demands below speak of these three.
use Rattle.std.specs.Prelude.{ℕ, List, ℤ}
use Rattle.arc_heading.specs.declared.Heading.{Heading}
use Rattle.take_state.specs.State.{State, started}
use Rattle.take_laws.specs.Machine.{run}
use Rattle.take_laws.specs.Taking.{take_answer, take_step}
use Rattle.take_laws.specs.Mix.{records_told, taken}

-- a heading, with room for its matrix sums and its right sides
module _ (h : Heading) (m r : List ℤ) where
  -- the state after records
  abbrev pub end_of : List (List ℕ) → State
  end_of bs = run (take_step h) (started h m r) bs

  -- each record with its answer
  abbrev pub told_in : List (List ℕ) → List (List ℕ × ℕ)
  told_in bs = records_told (take_step h) (take_answer h) (started h m r) bs

  -- the records that are answered accepted, in their order
  abbrev pub accepted_in : List (List ℕ) → List (List ℕ)
  accepted_in bs = taken (told_in bs)
