-- For the proofs of the code alone: no public promise and no law cites this, and an auditor may skip it.
-- What the code knows of a position, and of one with a part after it.
use Rattle.std.specs.Prelude.{ℕ, ◌+◌, ◌-◌, ◌/◌, ◌≤◌, min, ◌≡◌, List, ◌++◌, ℤ, length, take, Result, IfOk}
use Rattle.num_whole.specs.Answer.{Judged, good, bad}
use Rattle.num_whole.specs.Lists.{padded}
use Rattle.num_limits.specs.Capacities.{parameters_most, records_most}
use Rattle.refusal.specs.Told.{told_placed}
use Rattle.refusal.specs.declared.Fault.{Fault}
use Rattle.arc_read.specs.Arc.{Arc}
use Rattle.arc_read.specs.declared.ArcRead.{ArcRead}
use Rattle.take_state.specs.State.{room_number}
use Rattle.part_laws.specs.Beginning.{opened, size_of}
use Rattle.part_laws.specs.Entries.{position_most, position_of}
use Rattle.part_laws.specs.declared.Position as ByValue
use Rattle.part_place.specs.declared.Front.{Front}

-- how many records are whole in so many bytes of a file that opens so
abbrev pub completed_by : ℕ → ℕ → Judged Arc → ℕ
completed_by taken long (good a) = min (a.count - taken) ((long - a.start) / size_of a)
completed_by taken long (bad number place) = 0

-- what was opened is a position's bytes
pub record OpensAt (p : ByValue.Position) (o : Result ArcRead Fault) : Type 0 where
  pub told : told_placed o ≡ opened (position_of p).kept
  pub fits : IfOk o (λ a. (a.heading.parameters ≤ parameters_most) × (a.start ≤ position_most) × (a.count ≤ records_most))

-- the front of a position's bytes and a part's
pub record FrontOf (p : ByValue.Position) (l : List ℕ) (f : Front) : Type 0 where
  pub room : f.room ≡ padded position_most 0 (take position_most ((position_of p).kept ++ l))
  pub many : f.length ≡ min position_most (f.held + length l)
  pub held : f.held ≡ min p.length position_most
  pub long : f.held ≡ length (position_of p).kept

-- sums that have room for what was opened, whose heading is sound
abbrev pub RoomAt : Judged Arc → List ℤ → List ℤ → Type 0
RoomAt (good a) m r = room_number a.heading m r ≡ 0
RoomAt (bad number place) m r = Unit {0}
